use Rattle.std.specs.Prelude.{IsSome}
use Rattle.sheet_engine.specs.Standings.{stands, Grows}
use Rattle.sheet_engine.specs.Started.{IsUnderWay, left}
use Rattle.sheet_engine.proofs.settling.settle.Given as goal

abbrev pub invariant-loop-frame : goal.invariant-loop-frame
invariant-loop-frame g l = record {
  under_way : IsUnderWay l.book l.state l.standings l.frames.items;
  grows : Grows l.fn.standings l.standings;
  begun : IsSome (stands l.standings (l.object, l.column));
}

abbrev pub decreases-loop-frame : goal.decreases-loop-frame
decreases-loop-frame g l = left l.book l.state l.standings
