use Rattle.std.proofs.Common.{subst}
use Rattle.sheet_engine.specs.Seen.{Seen}
use Rattle.sheet_engine.specs.Started.{IsServed}
use Rattle.sheet_engine.proofs.engine.Engine.state.Goals as goal

pub returns-clause-served : goal.returns-clause-served
returns-clause-served c = subst (λ (s : Seen). IsServed s.book s.state) c.self.view_is c.self.invariant.served
