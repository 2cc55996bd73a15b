use Rattle.std.proofs.Common.{◌≡◌, ◌+◌, ◌*◌, take}
use Rattle.std.specs.Prelude.{max, map}
use Rattle.sheet_columns.specs.declared.formula.Core.{size-Core}
use Rattle.sheet_meaning.specs.Formula.{run, bind}
use Rattle.plain_lists.specs.Told.{scene}
use Rattle.plain_formulas.proofs.evaluate.+work.Given as goal

abbrev pub decreases-work_out : goal.decreases-work_out
decreases-work_out l = 2 * size-Core l.core.now

abbrev pub decreases-each_part : goal.decreases-each_part
decreases-each_part l = 2 * goal.size-each_part l + 1

abbrev pub decreases-each : goal.decreases-each
decreases-each l = 2 * size-Core l.core.now + 1

abbrev pub decreases-each_pair : goal.decreases-each_pair
decreases-each_pair l = 2 * max (size-Core l.condition.now) (size-Core l.body.now) + 1

abbrev pub invariant-each_part-loop-part : goal.invariant-each_part-loop-part
invariant-each_part-loop-part l = l.list.items ≡ map (λ e. run e (scene l.state l.worked) l.place l.variables) (take l.part-index l.parts)

abbrev pub invariant-each-loop-value : goal.invariant-each-loop-value
invariant-each-loop-value l = l.list.items ≡ map (λ x. run l.core (scene l.state l.worked) l.place (bind l.variables x)) (take l.value-index l.values)

abbrev pub invariant-each_pair-loop-value : goal.invariant-each_pair-loop-value
invariant-each_pair-loop-value l =
    l.list.items ≡ map
    (λ x. (run l.condition (scene l.state l.worked) l.place (bind l.variables x), run l.body (scene l.state l.worked) l.place (bind l.variables x)))
    (take l.value-index l.values)
