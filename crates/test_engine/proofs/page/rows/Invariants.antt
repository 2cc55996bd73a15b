use Rattle.std.proofs.Common.{◌≡◌}
use Rattle.test_engine.proofs.page.rows.Given as goal

abbrev pub invariant-loop-value : goal.invariant-loop-value
invariant-loop-value g l = l.engine.state ≡ l.fn.engine.state
