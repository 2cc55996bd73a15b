use Rattle.std.proofs.Common.{◌≡◌, ◌++◌, length}
use Rattle.std.specs.Prelude.{fold, ◌==◌, ◌||◌, ◌∷◌, [], if◌then◌else◌}
use Rattle.sheet_meaning.specs.declared.workbook.LiveObject.{LiveObject}
use Rattle.sheet_meaning.specs.Changes.{has_parent_in, family}
use Rattle.plain_procedures.proofs.changes.family.Given as goal

abbrev pub decreases-loop-first : goal.decreases-loop-first
decreases-loop-first l = length l.rest

abbrev pub invariant-loop-first : goal.invariant-loop-first
invariant-loop-first l =
    fold (λ ns (x : LiveObject). if x.number == l.object || has_parent_in ns x.parent then ns ++ x.number ∷ [] else ns) l.list.items l.rest ≡ family l.objects
    l.object
