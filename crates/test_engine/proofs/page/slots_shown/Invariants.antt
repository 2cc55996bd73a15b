use Rattle.std.proofs.Common.{◌≡◌}
use Rattle.test_engine.proofs.page.slots_shown.Given as goal

abbrev pub invariant-loop-slot : goal.invariant-loop-slot
invariant-loop-slot g l = l.engine.state ≡ l.fn.engine.state
