use Rattle.std.proofs.Common.{◌-◌, ◌≤◌, length, take}
use Rattle.sheet_outside.specs.Told.{Gains}
use Rattle.sheet_lines.proofs.send.write_all.Given as goal

abbrev pub invariant-loop-at : goal.invariant-loop-at
invariant-loop-at g l = record {
  within : l.at ≤ length l.text;
  gained : Gains (g.K.Sink.written l.fn.output) (g.K.Sink.written l.output) (take l.at l.text);
  later : g.K.Sink.faults l.fn.output ≤ g.K.Sink.faults l.output;
}

abbrev pub decreases-loop-at : goal.decreases-loop-at
decreases-loop-at g l = length l.text - l.at
