use Rattle.std.proofs.Common.{[]}
use Rattle.sheet_values.specs.Sets.{union}
use Rattle.sheet_meaning.specs.Formula.{on_object}
use Rattle.sheet_eval.specs.Turns.{way_of}
use Rattle.sheet_eval.specs.Told.{world_told}
use Rattle.sheet_eval.proofs.PartLemmas.{reached_more}
use Rattle.sheet_eval.proofs.contents.step_from_each.Goals as goal

pub loop-k-preserved : goal.loop-k-preserved
loop-k-preserved g c =
    reached_more union [] (on_object (way_of (world_told (g.L.Lookup.told c.args.scene.now.lookup.now)) c.args.way)) c.args.set.now c.args.uses.now
    c.at.ensures c.loop-k.invariant c.in_ok-so_far.ensures
