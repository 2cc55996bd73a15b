use Rattle.std.proofs.Common.{length}
use Rattle.sheet_views.proofs.allow.+has_truth.Given as goal

abbrev pub decreases-has_truth : goal.decreases-has_truth
decreases-has_truth l = length l.values.now
