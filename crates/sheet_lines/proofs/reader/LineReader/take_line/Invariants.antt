use Rattle.std.proofs.Common.{◌≡◌, ◌+◌, ◌-◌, ◌≤◌, ◌^◌, length}
use Rattle.sheet_outside.specs.Told.{WhereTold}
use Rattle.sheet_lines.specs.Unread.{rest}
use Rattle.sheet_lines.proofs.Parts.{IsSoFar}
use Rattle.sheet_lines.proofs.reader.LineReader.take_line.Given as goal

abbrev pub invariant-parts : goal.invariant-parts
invariant-parts g l = record {
  line : WhereTold (IsSoFar l.fn.line.items l.line.items) (rest l.fn.self (g.S.Source.left l.fn.input)) (rest l.self (g.S.Source.left l.input));
  counts : WhereTold (λ old now. l.self.used + length now ≡ l.fn.self.used + length old) (rest l.fn.self (g.S.Source.left l.fn.input))
      (rest l.self (g.S.Source.left l.input));
  kept : length l.line.items ≤ l.fn.most;
  grows : length l.fn.line.items ≤ length l.line.items;
  exact : l.self.used + length l.fn.line.items ≡ l.fn.self.used + length l.line.items;
  later_use : l.fn.self.used ≤ l.self.used;
  later : g.S.Source.faults l.fn.input ≤ g.S.Source.faults l.input;
}

abbrev pub decreases-parts : goal.decreases-parts
decreases-parts g l = 2 ^ 40 + 1 - l.self.used
