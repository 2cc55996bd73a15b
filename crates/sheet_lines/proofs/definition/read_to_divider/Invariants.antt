use Rattle.std.proofs.Common.{◌≡◌, ◌+◌, ◌-◌, ◌≤◌, ◌^◌, length}
use Rattle.sheet_outside.specs.Told.{WhereTold}
use Rattle.sheet_lines.specs.Unread.{rest}
use Rattle.sheet_lines.proofs.Dividing.{IsDividing}
use Rattle.sheet_lines.proofs.definition.read_to_divider.Given as goal

abbrev pub invariant-lines : goal.invariant-lines
invariant-lines g l = record {
  dividing : WhereTold (IsDividing l.text.items) (rest l.fn.reader (g.S.Source.left l.fn.input)) (rest l.reader (g.S.Source.left l.input));
  counts : WhereTold (λ old now. l.reader.used + length now ≡ l.fn.reader.used + length old) (rest l.fn.reader (g.S.Source.left l.fn.input))
      (rest l.reader (g.S.Source.left l.input));
  within : length l.text.items ≤ 262144;
  exact : l.reader.used ≡ l.fn.reader.used + length l.text.items;
  later : g.S.Source.faults l.fn.input ≤ g.S.Source.faults l.input;
}

abbrev pub decreases-lines : goal.decreases-lines
decreases-lines g l = 2 ^ 40 + 1 - l.reader.used
