use Rattle.sheet_eval.specs.Told.{lacks}
use Rattle.sheet_eval.proofs.PartLemmas.{lacking_more}
use Rattle.sheet_eval.proofs.evaluation.note_others.Goals as goal

pub loop-k-preserved : goal.loop-k-preserved
loop-k-preserved g c =
    lacking_more (lacks (g.L.Lookup.told c.args.lookup.now)) c.loop-k.need c.args.cells.now c.loop-k.k c.at.ensures c.loop-k.invariant
    c.in_ok-note_lacking.ensures
