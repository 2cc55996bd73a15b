use Rattle.std.proofs.Common.{arith, ◌≡◌, ◌∙◌, to_z, of_z}
use Rattle.std.specs.Prelude.{pos, ◌+ℤ◌}
use mir.Syntax.{w128}
use Rattle.std.proofs.lemmas.Int.{ints}
use Rattle.plain_lists.proofs.Steps.{one_folded}
use Rattle.plain_formulas.proofs.forms.total.Goals as goal

pub loop-number-preserved : goal.loop-number-preserved
loop-number-preserved c =
    let same : to_z w128 (of_z w128 c.plus-total.result) ≡ c.plus-total.result = omega (arith, ints) in
    record {
      total = same ∙ one_folded c.args.numbers.now c.loop-number.number-index (pos 0) c.loop-number-test.true ◌+ℤ◌ (pos 0) (to_z w128 c.loop-number.total-bits)
          c.plus-total.result c.loop-number.invariant.total c.plus-total.ensures.sum;
      low = omega (arith, ints);
      high = omega (arith, ints);
    }
