use Rattle.std.proofs.Common.{true, false}
use Rattle.std.specs.Prelude.{◌||◌, ◌&&◌}
use Rattle.plain_lists.proofs.Steps.{one_folded}
use Rattle.plain_formulas.proofs.forms.answered.Goals as goal

pub loop-truth-preserved : goal.loop-truth-preserved
loop-truth-preserved c = record {
  some = one_folded c.args.truths.now c.loop-truth.truth-index false c.loop-truth-test.true ◌||◌ false c.loop-truth.some c.either-some.result
      c.loop-truth.invariant.some c.either-some.ensures;
  all = one_folded c.args.truths.now c.loop-truth.truth-index false c.loop-truth-test.true ◌&&◌ true c.loop-truth.all c.also-all.result
      c.loop-truth.invariant.all c.also-all.ensures;
}
