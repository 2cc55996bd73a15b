use Rattle.std.proofs.Common.{◌≡◌, ◌+◌, ◌*◌, ◌++◌, []}
use Rattle.std.specs.Prelude.{max}
use Rattle.sheet_values.specs.Sets.{union}
use Rattle.sheet_columns.specs.declared.formula.Core.{size-Core}
use Rattle.sheet_meaning.specs.Formula.{run, single}
use Rattle.sheet_eval.specs.Told.{world_told}
use Rattle.sheet_eval.specs.Totals.{turn_of, with_part, start}
use Rattle.sheet_eval.proofs.PartLemmas.{Reached}
use Rattle.sheet_eval.proofs.working.+work.Given as goal

abbrev pub decreases-work : goal.decreases-work
decreases-work g l = 6 * size-Core l.core.now

abbrev pub decreases-step_of : goal.decreases-step_of
decreases-step_of g l = 6 * size-Core l.objects.now + 1

abbrev pub decreases-set_of : goal.decreases-set_of
decreases-set_of g l = 6 * goal.size-set_of g l + 1

abbrev pub decreases-unary : goal.decreases-unary
decreases-unary g l = 6 * size-Core l.part.now + 1

abbrev pub decreases-binary : goal.decreases-binary
decreases-binary g l = 6 * max (size-Core l.left.now) (size-Core l.right.now) + 1

abbrev pub decreases-connected : goal.decreases-connected
decreases-connected g l = 6 * max (size-Core l.left.now) (size-Core l.right.now) + 1

abbrev pub decreases-chosen : goal.decreases-chosen
decreases-chosen g l = 6 * max (size-Core l.condition.now) (max (size-Core l.left.now) (size-Core l.right.now)) + 1

abbrev pub decreases-aggregated : goal.decreases-aggregated
decreases-aggregated g l = 6 * max (size-Core l.source.now) (max (size-Core l.body.now) (size-Core l.condition.now)) + 4

abbrev pub decreases-values_of : goal.decreases-values_of
decreases-values_of g l = 6 * max (size-Core l.body.now) (size-Core l.condition.now) + 3

abbrev pub decreases-turn : goal.decreases-turn
decreases-turn g l = 6 * max (size-Core l.body.now) (size-Core l.condition.now) + 2

abbrev pub decreases-bound_turn : goal.decreases-bound_turn
decreases-bound_turn g l = 6 * max (size-Core l.body.now) (size-Core l.condition.now) + 1

abbrev pub invariant-set_of-loop-part : goal.invariant-set_of-loop-part
invariant-set_of-loop-part g l = record {
  reached : Reached union [] (λ e. single (run e (world_told (g.L.Lookup.told l.scene.lookup.now)) l.scene.place (l.scene.variables.now ++ l.fn.bound))) l.parts l.fn.uses l.so_far l.uses
      l.part-index;
  bound : l.bound ≡ l.fn.bound;
}

abbrev pub invariant-values_of-loop-k : goal.invariant-values_of-loop-k
invariant-values_of-loop-k g l = record {
  reached : Reached (with_part l.fn.aggregate) (start l.fn.aggregate) (turn_of l.fn.aggregate l.body l.condition (world_told (g.L.Lookup.told l.scene.lookup.now))
      l.scene.place (l.scene.variables.now ++ l.fn.bound)) l.set l.fn.uses l.total.so_far l.uses l.k;
  bound : l.bound ≡ l.fn.bound;
  aggregate : l.total.aggregate ≡ l.fn.aggregate;
}
