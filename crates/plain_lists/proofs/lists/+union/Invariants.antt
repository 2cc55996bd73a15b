use Rattle.std.proofs.Common.{length}
use Rattle.plain_lists.proofs.lists.+union.Given as goal

abbrev pub decreases-union : goal.decreases-union
decreases-union l = length l.left.now
