use Rattle.std.proofs.Common.{◌≡◌, true, false, take}
use Rattle.std.specs.Prelude.{fold, ◌||◌, ◌&&◌}
use Rattle.plain_formulas.proofs.forms.answered.Given as goal

abbrev pub invariant-loop-truth : goal.invariant-loop-truth
invariant-loop-truth l = record {
  some : l.some ≡ fold ◌||◌ false (take l.truth-index l.truths);
  all : l.all ≡ fold ◌&&◌ true (take l.truth-index l.truths);
}
