use Rattle.std.proofs.Common.{length}
use Rattle.sheet_views.proofs.allow.+truth_among.Given as goal

abbrev pub decreases-truth_among : goal.decreases-truth_among
decreases-truth_among l = length l.values.now
