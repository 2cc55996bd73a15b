use Rattle.std.proofs.Common.{◌≤◌, length}
use Rattle.test_engine.proofs.play.play_some.Given as goal

abbrev pub invariant-loop-line : goal.invariant-loop-line
invariant-loop-line g l = length l.fn.engine.state.earlier ≤ length l.engine.state.earlier
