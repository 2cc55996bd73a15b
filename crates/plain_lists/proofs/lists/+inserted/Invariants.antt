use Rattle.std.proofs.Common.{length}
use Rattle.plain_lists.proofs.lists.+inserted.Given as goal

abbrev pub decreases-inserted : goal.decreases-inserted
decreases-inserted l = length l.values.now
