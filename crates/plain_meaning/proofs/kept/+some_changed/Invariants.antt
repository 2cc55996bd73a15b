use Rattle.std.proofs.Common.{length}
use Rattle.plain_meaning.proofs.kept.+some_changed.Given as goal

abbrev pub decreases-some_changed : goal.decreases-some_changed
decreases-some_changed l = length l.items.now
