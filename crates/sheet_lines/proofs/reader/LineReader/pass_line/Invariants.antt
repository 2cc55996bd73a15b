use Rattle.std.proofs.Common.{◌≡◌, ◌+◌, ◌-◌, ◌≤◌, ◌^◌, length}
use Rattle.sheet_outside.specs.Told.{WhereTold}
use Rattle.sheet_lines.specs.Unread.{rest}
use Rattle.sheet_lines.proofs.Parts.{IsPassed}
use Rattle.sheet_lines.proofs.reader.LineReader.pass_line.Given as goal

abbrev pub invariant-parts : goal.invariant-parts
invariant-parts g l = record {
  line : WhereTold IsPassed (rest l.fn.self (g.S.Source.left l.fn.input)) (rest l.self (g.S.Source.left l.input));
  counts : WhereTold (λ old now. l.self.used + length now ≡ l.fn.self.used + length old) (rest l.fn.self (g.S.Source.left l.fn.input))
      (rest l.self (g.S.Source.left l.input));
  later_use : l.fn.self.used ≤ l.self.used;
  later : g.S.Source.faults l.fn.input ≤ g.S.Source.faults l.input;
}

abbrev pub decreases-parts : goal.decreases-parts
decreases-parts g l = 2 ^ 40 + 1 - l.self.used
