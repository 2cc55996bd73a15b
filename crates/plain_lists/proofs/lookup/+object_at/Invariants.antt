use Rattle.std.proofs.Common.{length}
use Rattle.plain_lists.proofs.lookup.+object_at.Given as goal

abbrev pub decreases-object_at : goal.decreases-object_at
decreases-object_at l = length l.objects.now
