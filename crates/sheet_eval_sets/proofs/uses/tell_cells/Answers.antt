use Rattle.sheet_eval_sets.proofs.CellLemmas.{cells_more}
use Rattle.sheet_eval_sets.proofs.uses.tell_cells.Goals as goal

pub loop-k-preserved : goal.loop-k-preserved
loop-k-preserved c = cells_more c.loop-k.all c.args.cells.now c.loop-k.k c.at.ensures c.loop-k.invariant c.in_ok-push.ensures.ok
