use Rattle.std.proofs.Common.{length}
use Rattle.plain_procedures.proofs.filled.+first_unfilled.Given as goal

abbrev pub decreases-first_unfilled : goal.decreases-first_unfilled
decreases-first_unfilled l = length l.among.now
