use Rattle.std.proofs.Common.{length}
use Rattle.plain_lists.proofs.lists.+picked.Given as goal

abbrev pub decreases-picked : goal.decreases-picked
decreases-picked l = length l.left.now
