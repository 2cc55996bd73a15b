use Rattle.std.proofs.Common.{◌≡◌, length}
use Rattle.sheet_types_rounds.proofs.first.is_same.Given as goal

abbrev pub invariant-loop-a : goal.invariant-loop-a
invariant-loop-a l = l.left ≡ l.right → l.fn.left ≡ l.fn.right

abbrev pub decreases-loop-a : goal.decreases-loop-a
decreases-loop-a l = length l.left
