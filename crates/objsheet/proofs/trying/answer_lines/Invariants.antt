use Rattle.std.proofs.Common.{◌≡◌, ◌-◌, ◌+◌, ◌^◌, ◌≤◌, length}
use Rattle.sheet_outside.specs.Told.{WhereTold}
use Rattle.sheet_lines.specs.Unread.{rest}
use Rattle.sheet_lines.specs.Told.{both}
use Rattle.objsheet.specs.Serving.{ServesLines}
use Rattle.objsheet.proofs.trying.answer_lines.Given as goal

abbrev pub invariant-lines : goal.invariant-lines
invariant-lines g l = record {
  serves : WhereTold (ServesLines l.fn.session l.session) (both (rest l.fn.reader (g.S.Source.left l.fn.input)) (g.K.Sink.written l.fn.output))
      (both (rest l.reader (g.S.Source.left l.input)) (g.K.Sink.written l.output));
  counts : WhereTold (λ old new. l.reader.used + length new ≡ l.fn.reader.used + length old) (rest l.fn.reader (g.S.Source.left l.fn.input))
      (rest l.reader (g.S.Source.left l.input));
  source : g.S.Source.faults l.fn.input ≤ g.S.Source.faults l.input;
  sink : g.K.Sink.faults l.fn.output ≤ g.K.Sink.faults l.output;
  still : l.disk ≡ l.fn.disk;
}

abbrev pub decreases-lines : goal.decreases-lines
decreases-lines g l = 2 ^ 40 + 1 - l.reader.used
