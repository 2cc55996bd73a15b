use Rattle.std.proofs.Common.{[]}
use Rattle.sheet_values.specs.Sets.{union}
use Rattle.sheet_meaning.specs.Formula.{on_object}
use Rattle.sheet_eval.specs.Turns.{way_of}
use Rattle.sheet_eval.specs.Told.{world_told}
use Rattle.sheet_eval.proofs.PartLemmas.{Reached}
use Rattle.sheet_eval.proofs.contents.step_from_each.Given as goal

abbrev pub invariant-loop-k : goal.invariant-loop-k
invariant-loop-k g l = Reached union [] (on_object (way_of (world_told (g.L.Lookup.told l.scene.lookup.now)) l.way)) l.set l.fn.uses l.so_far l.uses l.k
