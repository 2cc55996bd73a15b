use Rattle.std.proofs.Common.{◌≡◌, ◌++◌, length}
use Rattle.plain_procedures.specs.Counts.{one_pairs_of}
use Rattle.plain_procedures.proofs.filled.push_one_pairs.Given as goal

abbrev pub decreases-loop-column : goal.decreases-loop-column
decreases-loop-column l = length l.rest

abbrev pub invariant-loop-column : goal.invariant-loop-column
invariant-loop-column l = l.list.items ++ one_pairs_of l.object l.rest ≡ l.fn.list.items ++ one_pairs_of l.object l.columns
