use Rattle.std.proofs.Common.{length}
use Rattle.plain_lists.proofs.lists.+within.Given as goal

abbrev pub decreases-within : goal.decreases-within
decreases-within l = length l.left.now
