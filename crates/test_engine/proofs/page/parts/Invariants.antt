use Rattle.std.proofs.Common.{◌≡◌}
use Rattle.test_engine.proofs.page.parts.Given as goal

abbrev pub invariant-loop-view : goal.invariant-loop-view
invariant-loop-view g l = l.engine.state ≡ l.fn.engine.state
