use Rattle.std.proofs.Common.{◌≡◌, ◌++◌, length}
use Rattle.plain_procedures.specs.Counts.{pairs_of}
use Rattle.plain_procedures.proofs.filled.push_pairs.Given as goal

abbrev pub decreases-loop-column : goal.decreases-loop-column
decreases-loop-column l = length l.rest

abbrev pub invariant-loop-column : goal.invariant-loop-column
invariant-loop-column l = l.list.items ++ pairs_of l.object l.rest ≡ l.fn.list.items ++ pairs_of l.object l.columns
