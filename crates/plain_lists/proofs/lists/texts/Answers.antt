use Rattle.sheet_meaning.specs.Formula.{text_in}
use Rattle.plain_lists.proofs.Steps.{one_picked}
use Rattle.plain_lists.proofs.lists.texts.Goals as goal

pub loop-value-preserved : goal.loop-value-preserved
loop-value-preserved c =
    one_picked c.args.values.now c.loop-value.value-index c.value-item.result c.loop-value-test.true c.value-item.is text_in _ _ c.loop-value.invariant
    c.in_ok-push_text.ensures
