use Rattle.std.proofs.Common.{length}
use Rattle.plain_meaning.proofs.reaching.+uses_in.Given as goal

abbrev pub decreases-uses_in : goal.decreases-uses_in
decreases-uses_in l = length l.runs.now
