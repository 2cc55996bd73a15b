use Rattle.std.proofs.Common.{length}
use Rattle.plain_lists.proofs.lookup.+outcome_of.Given as goal

abbrev pub decreases-outcome_of : goal.decreases-outcome_of
decreases-outcome_of l = length l.worked.now
