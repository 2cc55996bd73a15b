use Rattle.std.proofs.Common.{length}
use Rattle.plain_formulas.proofs.forms.+last.Given as goal

abbrev pub decreases-last : goal.decreases-last
decreases-last l = length l.more.now
