use Rattle.sheet_meaning.specs.Formula.{live_reads}
use Rattle.plain_lists.proofs.Steps.{one_joined, reads_join}
use Rattle.plain_lists.proofs.lookup.reads.Goals as goal

pub loop-value-preserved : goal.loop-value-preserved
loop-value-preserved c =
    one_joined c.args.values.now c.loop-value.value-index c.value-item.result c.loop-value-test.true c.value-item.is live_reads reads_join _ _
    c.loop-value.invariant c.in_ok-push_read.ensures
