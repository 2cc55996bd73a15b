use Rattle.std.proofs.Common.{◌≡◌, ◌++◌, length}
use Rattle.std.specs.Prelude.{filter, not}
use Rattle.sheet_meaning.specs.declared.workbook.LiveObject.{LiveObject}
use Rattle.sheet_meaning.specs.Changes.{has_number}
use Rattle.plain_procedures.proofs.changes.objects_without.Given as goal

abbrev pub decreases-loop-object : goal.decreases-loop-object
decreases-loop-object l = length l.rest

abbrev pub invariant-loop-object : goal.invariant-loop-object
invariant-loop-object l =
    l.list ++ filter (λ (x : LiveObject). not (has_number l.numbers x.number)) l.rest ≡ filter (λ (x : LiveObject). not (has_number l.numbers x.number))
    l.objects
