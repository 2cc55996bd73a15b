use Rattle.std.proofs.Common.{◌≡◌, ◌*◌, ◌^◌, take}
use Rattle.std.specs.Prelude.{fold, pos, ◌+ℤ◌, neg_ℤ, ◌≤ℤ◌}
use Rattle.plain_formulas.proofs.forms.total.Given as goal

abbrev pub invariant-loop-number : goal.invariant-loop-number
invariant-loop-number l = record {
  total : l.total ≡ fold ◌+ℤ◌ (pos 0) (take l.number-index l.numbers);
  low : neg_ℤ (pos (l.number-index * 2 ^ 63)) ≤ℤ l.total;
  high : l.total ≤ℤ pos (l.number-index * 2 ^ 63);
}
