use Rattle.std.proofs.Common.{[]}
use Rattle.sheet_engine.specs.Started.{Advances}
use Rattle.sheet_engine.proofs.settling.settle_all.Given as goal

abbrev pub invariant-loop-k : goal.invariant-loop-k
invariant-loop-k g l = Advances l.book l.state l.fn.standings l.standings []
