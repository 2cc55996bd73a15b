use Rattle.std.proofs.Common.{◌≤◌, length}
use Rattle.test_engine.proofs.change.make_many.Given as goal

abbrev pub invariant-loop : goal.invariant-loop
invariant-loop l = length l.fn.engine.state.earlier ≤ length l.engine.state.earlier
