use Rattle.std.proofs.Common.{[]}
use Rattle.sheet_engine.specs.Started.{IsUnderWay, left}
use Rattle.sheet_engine.proofs.settling.value_of.Given as goal

abbrev pub invariant-turns : goal.invariant-turns
invariant-turns g l = IsUnderWay l.book l.state l.standings []

abbrev pub decreases-turns : goal.decreases-turns
decreases-turns g l = left l.book l.state l.standings
