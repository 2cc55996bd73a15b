use Rattle.std.proofs.Common.{length}
use Rattle.plain_lists.proofs.lists.+equal.Given as goal

abbrev pub decreases-equal : goal.decreases-equal
decreases-equal l = length l.left.now
