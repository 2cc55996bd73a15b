use Rattle.std.proofs.Common.{◌≡◌, ◌++◌, length}
use Rattle.std.specs.Prelude.{filter}
use Rattle.sheet_meaning.specs.Changes.{is_other}
use Rattle.plain_procedures.proofs.changes.others.Given as goal

abbrev pub decreases-loop-value : goal.decreases-loop-value
decreases-loop-value l = length l.rest

abbrev pub invariant-loop-value : goal.invariant-loop-value
invariant-loop-value l = l.list ++ filter (is_other l.numbers) l.rest ≡ filter (is_other l.numbers) l.values
