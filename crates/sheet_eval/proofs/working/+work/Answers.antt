use Rattle.std.proofs.Common.{◌≡◌, refl, sym, ap, ◌∙◌, ◌++◌, [], ◌∷◌, Ok, arith, rules, to_z, of_z, w64}
use Rattle.sheet_values.specs.Sets.{union}
use Rattle.sheet_values.specs.declared.value.Value.TheVariants.{Number}
use Rattle.sheet_meaning.specs.Run.{and_then, connect, finish}
use Rattle.sheet_meaning.specs.Formula.{run, step, single, gathered, truth, told}
use Rattle.sheet_eval.specs.Made.{unary_run, binary_run}
use Rattle.sheet_eval.specs.Told.{world_told}
use Rattle.sheet_eval.specs.Totals.{Tally, turn_of, with_part, start, aggregated, gathered_from}
use Rattle.sheet_eval.specs.Turns.{way_of, choice}
use Rattle.sheet_eval.specs.declared.contents.Way.TheVariants.{Children, OfState, OfFormula, Parent}
use Rattle.sheet_eval.specs.declared.forms.Unary.TheVariants as of_one_part
use Rattle.sheet_eval.specs.declared.forms.Binary.TheVariants as of_two_parts
use Rattle.sheet_eval.specs.declared.total.Aggregate.TheVariants as over
use Rattle.sheet_eval.proofs.PartLemmas.{if_ok, on_ok, came_is, got, same_run, then_came, known_came, failed_came, reached_more}
use Rattle.sheet_eval.proofs.FormLemmas.{run-ObjectStep, run-StateStep, run-FormulaStep, run-Up, run-Set, run-Combine, run-Compare, run-Order, run-Arithmetic}
use Rattle.sheet_eval.proofs.FormLemmas.{run-Join, run-Negate, run-Not, run-Count, run-Only, run-Extreme, run-Connect, run-If, of_none, of_one, of_two}
use Rattle.sheet_eval.proofs.FormLemmas.{of_three, at_variables, one_made, two_made, truth_came, connect_skipped, connect_both, union_part}
use Rattle.sheet_eval.proofs.TotalLemmas.{run-Comprehension, run-Sum, run-Quantify, at_test, at_fault, at_false, at_true, bound_came, turned, total_start}
use Rattle.sheet_eval.proofs.TotalLemmas.{total_end, source_fault, source_known, values_at}
use Rattle.sheet_eval.proofs.working.+work.Goals as goal

pub work-returns-in-Truth-clause-came : goal.work-returns-in-Truth-clause-came
work-returns-in-Truth-clause-came g t c =
    let w = world_told (g.L.Lookup.told c.args.scene.now.lookup.now) in
    let p = c.args.scene.now.place in
    let v = c.args.scene.now.variables.now ++ c.args.bound.now in
    if_ok c.known.result _ _ (λ o h. of_none w p v c.in-Truth.is refl h) c.known.ensures

pub work-returns-in-Number-clause-came : goal.work-returns-in-Number-clause-came
work-returns-in-Number-clause-came g t c =
    let w = world_told (g.L.Lookup.told c.args.scene.now.lookup.now) in
    let p = c.args.scene.now.place in
    let v = c.args.scene.now.variables.now ++ c.args.bound.now in
    let same : to_z w64 (of_z w64 c.in-Number.number) ≡ c.in-Number.number = search rules in
    if_ok c.known-in-Number.result _ _ (λ o h. of_none w p v c.in-Number.is refl (h ∙ ap (λ n. Ok (Number n ∷ [])) same)) c.known-in-Number.ensures

pub work-returns-in-Text-clause-came : goal.work-returns-in-Text-clause-came
work-returns-in-Text-clause-came g t c =
    let w = world_told (g.L.Lookup.told c.args.scene.now.lookup.now) in
    let p = c.args.scene.now.place in
    let v = c.args.scene.now.variables.now ++ c.args.bound.now in
    if_ok c.known_text.result _ _ (λ o h. of_none w p v c.in-Text.is refl h) c.known_text.ensures

pub work-returns-in-Root-clause-came : goal.work-returns-in-Root-clause-came
work-returns-in-Root-clause-came g t c =
    let w = world_told (g.L.Lookup.told c.args.scene.now.lookup.now) in
    let p = c.args.scene.now.place in
    let v = c.args.scene.now.variables.now ++ c.args.bound.now in
    if_ok c.known-in-Root.result _ _ (λ o h. of_none w p v c.in-Root.is refl h) c.known-in-Root.ensures

pub work-returns-in-Variable-clause-came : goal.work-returns-in-Variable-clause-came
work-returns-in-Variable-clause-came g t c =
    let w = world_told (g.L.Lookup.told c.args.scene.now.lookup.now) in
    let p = c.args.scene.now.place in
    let v = c.args.scene.now.variables.now ++ c.args.bound.now in
    if_ok c.variable.result _ _ (λ o h. same_run (ap (λ k. run k w p v) c.in-Variable.is) h) c.variable.ensures

pub work-returns-in-ObjectStep-clause-came : goal.work-returns-in-ObjectStep-clause-came
work-returns-in-ObjectStep-clause-came g t c =
    let w = world_told (g.L.Lookup.told c.args.scene.now.lookup.now) in
    let p = c.args.scene.now.place in
    let v = c.args.scene.now.variables.now ++ c.args.bound.now in
    if_ok c.step_of.result _ _ (λ o h. of_one w p v (λ e. and_then (run e w p v) (step (way_of w (Children c.in-ObjectStep.column)))) c.in-ObjectStep.is
    (run-ObjectStep w p v c.in-ObjectStep.column _) c.get.ensures h) c.step_of.ensures.came

pub work-returns-in-StateStep-clause-came : goal.work-returns-in-StateStep-clause-came
work-returns-in-StateStep-clause-came g t c =
    let w = world_told (g.L.Lookup.told c.args.scene.now.lookup.now) in
    let p = c.args.scene.now.place in
    let v = c.args.scene.now.variables.now ++ c.args.bound.now in
    if_ok c.step_of-in-StateStep.result _ _ (λ o h. of_one w p v (λ e. and_then (run e w p v) (step (way_of w (OfState c.in-StateStep.column))))
    c.in-StateStep.is (run-StateStep w p v c.in-StateStep.column _) c.get-in-StateStep.ensures h) c.step_of-in-StateStep.ensures.came

pub work-returns-in-FormulaStep-clause-came : goal.work-returns-in-FormulaStep-clause-came
work-returns-in-FormulaStep-clause-came g t c =
    let w = world_told (g.L.Lookup.told c.args.scene.now.lookup.now) in
    let p = c.args.scene.now.place in
    let v = c.args.scene.now.variables.now ++ c.args.bound.now in
    if_ok c.step_of-in-FormulaStep.result _ _ (λ o h. of_one w p v (λ e. and_then (run e w p v) (step (way_of w (OfFormula c.in-FormulaStep.column))))
    c.in-FormulaStep.is (run-FormulaStep w p v c.in-FormulaStep.column _) c.get-in-FormulaStep.ensures h) c.step_of-in-FormulaStep.ensures.came

pub work-returns-in-Up-clause-came : goal.work-returns-in-Up-clause-came
work-returns-in-Up-clause-came g t c =
    let w = world_told (g.L.Lookup.told c.args.scene.now.lookup.now) in
    let p = c.args.scene.now.place in
    let v = c.args.scene.now.variables.now ++ c.args.bound.now in
    if_ok c.step_of-in-Up.result _ _ (λ o h. of_one w p v (λ e. and_then (run e w p v) (step (way_of w Parent))) c.in-Up.is (run-Up w p v _)
    c.get-in-Up.ensures h) c.step_of-in-Up.ensures.came

pub work-returns-in-Set-clause-came : goal.work-returns-in-Set-clause-came
work-returns-in-Set-clause-came g t c =
    let w = world_told (g.L.Lookup.told c.args.scene.now.lookup.now) in
    let p = c.args.scene.now.place in
    let v = c.args.scene.now.variables.now ++ c.args.bound.now in
    if_ok c.set_of.result _ _ (λ o h. of_one w p v (gathered union [] (λ e. single (run e w p v))) c.in-Set.is (run-Set w p v _) c.as_slice.ensures h)
    c.set_of.ensures.came

pub work-returns-in-Combine-clause-came : goal.work-returns-in-Combine-clause-came
work-returns-in-Combine-clause-came g t c =
    let w = world_told (g.L.Lookup.told c.args.scene.now.lookup.now) in
    let p = c.args.scene.now.place in
    let v = c.args.scene.now.variables.now ++ c.args.bound.now in
    if_ok c.binary.result _ _ (λ o h. of_two w p v (λ a b. binary_run (of_two_parts.Combine c.in-Combine.operator) p (run a w p v) (run b w p v))
    c.in-Combine.is (run-Combine w p v c.in-Combine.operator _ _) c.get-in-Combine.ensures c.get-in-Combine-2.ensures h) c.binary.ensures.came

pub work-returns-in-Compare-clause-came : goal.work-returns-in-Compare-clause-came
work-returns-in-Compare-clause-came g t c =
    let w = world_told (g.L.Lookup.told c.args.scene.now.lookup.now) in
    let p = c.args.scene.now.place in
    let v = c.args.scene.now.variables.now ++ c.args.bound.now in
    if_ok c.binary-in-Compare.result _ _ (λ o h. of_two w p v (λ a b. binary_run (of_two_parts.Compare c.in-Compare.test) p (run a w p v) (run b w p v))
    c.in-Compare.is (run-Compare w p v c.in-Compare.test _ _) c.get-in-Compare.ensures c.get-in-Compare-2.ensures h) c.binary-in-Compare.ensures.came

pub work-returns-in-Order-clause-came : goal.work-returns-in-Order-clause-came
work-returns-in-Order-clause-came g t c =
    let w = world_told (g.L.Lookup.told c.args.scene.now.lookup.now) in
    let p = c.args.scene.now.place in
    let v = c.args.scene.now.variables.now ++ c.args.bound.now in
    if_ok c.binary-in-Order.result _ _ (λ o h. of_two w p v (λ a b. binary_run (of_two_parts.Order c.in-Order.test) p (run a w p v) (run b w p v))
    c.in-Order.is (run-Order w p v c.in-Order.test _ _) c.get-in-Order.ensures c.get-in-Order-2.ensures h) c.binary-in-Order.ensures.came

pub work-returns-in-Arithmetic-clause-came : goal.work-returns-in-Arithmetic-clause-came
work-returns-in-Arithmetic-clause-came g t c =
    let w = world_told (g.L.Lookup.told c.args.scene.now.lookup.now) in
    let p = c.args.scene.now.place in
    let v = c.args.scene.now.variables.now ++ c.args.bound.now in
    if_ok c.binary-in-Arithmetic.result _ _ (λ o h. of_two w p v
    (λ a b. binary_run (of_two_parts.Arithmetic c.in-Arithmetic.operator) p (run a w p v) (run b w p v)) c.in-Arithmetic.is
    (run-Arithmetic w p v c.in-Arithmetic.operator _ _) c.get-in-Arithmetic.ensures c.get-in-Arithmetic-2.ensures h) c.binary-in-Arithmetic.ensures.came

pub work-returns-in-Negate-clause-came : goal.work-returns-in-Negate-clause-came
work-returns-in-Negate-clause-came g t c =
    let w = world_told (g.L.Lookup.told c.args.scene.now.lookup.now) in
    let p = c.args.scene.now.place in
    let v = c.args.scene.now.variables.now ++ c.args.bound.now in
    if_ok c.unary.result _ _ (λ o h. of_one w p v (λ e. unary_run of_one_part.Negate p (run e w p v)) c.in-Negate.is (run-Negate w p v _)
    c.get-in-Negate.ensures h) c.unary.ensures.came

pub work-returns-in-Join-clause-came : goal.work-returns-in-Join-clause-came
work-returns-in-Join-clause-came g t c =
    let w = world_told (g.L.Lookup.told c.args.scene.now.lookup.now) in
    let p = c.args.scene.now.place in
    let v = c.args.scene.now.variables.now ++ c.args.bound.now in
    if_ok c.binary-in-Join.result _ _ (λ o h. of_two w p v (λ a b. binary_run of_two_parts.Join p (run a w p v) (run b w p v)) c.in-Join.is
    (run-Join w p v _ _) c.get-in-Join.ensures c.get-in-Join-2.ensures h) c.binary-in-Join.ensures.came

pub work-returns-in-Not-clause-came : goal.work-returns-in-Not-clause-came
work-returns-in-Not-clause-came g t c =
    let w = world_told (g.L.Lookup.told c.args.scene.now.lookup.now) in
    let p = c.args.scene.now.place in
    let v = c.args.scene.now.variables.now ++ c.args.bound.now in
    if_ok c.unary-in-Not.result _ _ (λ o h. of_one w p v (λ e. unary_run of_one_part.Not p (run e w p v)) c.in-Not.is (run-Not w p v _) c.get-in-Not.ensures
    h) c.unary-in-Not.ensures.came

pub work-returns-in-Count-clause-came : goal.work-returns-in-Count-clause-came
work-returns-in-Count-clause-came g t c =
    let w = world_told (g.L.Lookup.told c.args.scene.now.lookup.now) in
    let p = c.args.scene.now.place in
    let v = c.args.scene.now.variables.now ++ c.args.bound.now in
    if_ok c.unary-in-Count.result _ _ (λ o h. of_one w p v (λ e. unary_run of_one_part.Count p (run e w p v)) c.in-Count.is (run-Count w p v _)
    c.get-in-Count.ensures h) c.unary-in-Count.ensures.came

pub work-returns-in-Only-clause-came : goal.work-returns-in-Only-clause-came
work-returns-in-Only-clause-came g t c =
    let w = world_told (g.L.Lookup.told c.args.scene.now.lookup.now) in
    let p = c.args.scene.now.place in
    let v = c.args.scene.now.variables.now ++ c.args.bound.now in
    if_ok c.unary-in-Only.result _ _ (λ o h. of_one w p v (λ e. unary_run of_one_part.Only p (run e w p v)) c.in-Only.is (run-Only w p v _)
    c.get-in-Only.ensures h) c.unary-in-Only.ensures.came

pub work-returns-in-Extreme-clause-came : goal.work-returns-in-Extreme-clause-came
work-returns-in-Extreme-clause-came g t c =
    let w = world_told (g.L.Lookup.told c.args.scene.now.lookup.now) in
    let p = c.args.scene.now.place in
    let v = c.args.scene.now.variables.now ++ c.args.bound.now in
    if_ok c.unary-in-Extreme.result _ _ (λ o h. of_one w p v (λ e. unary_run (of_one_part.Extreme c.in-Extreme.extremum) p (run e w p v)) c.in-Extreme.is
    (run-Extreme w p v c.in-Extreme.extremum _) c.get-in-Extreme.ensures h) c.unary-in-Extreme.ensures.came

pub work-returns-in-Connect-clause-came : goal.work-returns-in-Connect-clause-came
work-returns-in-Connect-clause-came g t c =
    let w = world_told (g.L.Lookup.told c.args.scene.now.lookup.now) in
    let p = c.args.scene.now.place in
    let v = c.args.scene.now.variables.now ++ c.args.bound.now in
    if_ok c.connected.result _ _ (λ o h. of_two w p v (λ a b. finish (connect c.in-Connect.connective (truth p (run a w p v)) (truth p (run b w p v))) told)
    c.in-Connect.is (run-Connect w p v c.in-Connect.connective _ _) c.get-in-Connect.ensures c.get-in-Connect-2.ensures h) c.connected.ensures.came

pub work-returns-in-If-clause-came : goal.work-returns-in-If-clause-came
work-returns-in-If-clause-came g t c =
    let w = world_told (g.L.Lookup.told c.args.scene.now.lookup.now) in
    let p = c.args.scene.now.place in
    let v = c.args.scene.now.variables.now ++ c.args.bound.now in
    if_ok c.chosen.result _ _ (λ o h. of_three w p v (λ k a b. and_then (truth p (run k w p v)) (choice a b w p v)) c.in-If.is (run-If w p v _ _ _)
    c.get-in-If.ensures c.get-in-If-2.ensures c.get-in-If-3.ensures h) c.chosen.ensures.came

pub work-returns-in-Comprehension-clause-came : goal.work-returns-in-Comprehension-clause-came
work-returns-in-Comprehension-clause-came g t c =
    let w = world_told (g.L.Lookup.told c.args.scene.now.lookup.now) in
    let p = c.args.scene.now.place in
    let v = c.args.scene.now.variables.now ++ c.args.bound.now in
    if_ok c.aggregated.result _ _ (λ o h. of_three w p v (λ body source condition. aggregated over.Union body source condition w p v) c.in-Comprehension.is
    (run-Comprehension w p v _ _ _) c.get-in-Comprehension.ensures c.get-in-Comprehension-2.ensures c.get-in-Comprehension-3.ensures h)
    c.aggregated.ensures.came

pub work-returns-in-Sum-clause-came : goal.work-returns-in-Sum-clause-came
work-returns-in-Sum-clause-came g t c =
    let w = world_told (g.L.Lookup.told c.args.scene.now.lookup.now) in
    let p = c.args.scene.now.place in
    let v = c.args.scene.now.variables.now ++ c.args.bound.now in
    if_ok c.aggregated-in-Sum.result _ _ (λ o h. of_three w p v (λ body source condition. aggregated over.Sum body source condition w p v) c.in-Sum.is
    (run-Sum w p v _ _ _) c.get-in-Sum.ensures c.get-in-Sum-2.ensures c.get-in-Sum-3.ensures h) c.aggregated-in-Sum.ensures.came

pub work-returns-in-Quantify-clause-came : goal.work-returns-in-Quantify-clause-came
work-returns-in-Quantify-clause-came g t c =
    let w = world_told (g.L.Lookup.told c.args.scene.now.lookup.now) in
    let p = c.args.scene.now.place in
    let v = c.args.scene.now.variables.now ++ c.args.bound.now in
    if_ok c.aggregated-in-Quantify.result _ _ (λ o h. of_three w p v
    (λ body source condition. aggregated (over.Quantify c.in-Quantify.quantifier) body source condition w p v) c.in-Quantify.is
    (run-Quantify w p v c.in-Quantify.quantifier _ _) c.get-in-Quantify.ensures c.get-in-Quantify-2.ensures c.get-in-Quantify-3.ensures h)
    c.aggregated-in-Quantify.ensures.came

pub step_of-returns-clause-came : goal.step_of-returns-clause-came
step_of-returns-clause-came g t c =
    let w = world_told (g.L.Lookup.told c.args.scene.now.lookup.now) in
    let p = c.args.scene.now.place in
    let v = c.args.scene.now.variables.now ++ c.args.bound.now in
    if_ok c.step_on.result _ _ (λ o h. then_came (step (way_of w c.args.way)) c.in_ok-objects.ensures.came h) c.step_on.ensures

pub unary-returns-clause-came : goal.unary-returns-clause-came
unary-returns-clause-came g t c =
    let w = world_told (g.L.Lookup.told c.args.scene.now.lookup.now) in
    let p = c.args.scene.now.place in
    let v = c.args.scene.now.variables.now ++ c.args.bound.now in
    if_ok c.made_of_one.result _ _ (λ o h. one_made c.args.form p c.in_ok-part.ensures.came h) c.made_of_one.ensures

pub binary-returns-clause-came : goal.binary-returns-clause-came
binary-returns-clause-came g t c =
    let w = world_told (g.L.Lookup.told c.args.scene.now.lookup.now) in
    let p = c.args.scene.now.place in
    let v = c.args.scene.now.variables.now ++ c.args.bound.now in
    if_ok c.made_of_two.result _ _ (λ o h. two_made c.args.form p c.in_ok-left.ensures.came
    (at_variables c.args.right.now w p (ap (λ b. c.args.scene.now.variables.now ++ b) c.in_ok-left.ensures.bound) c.in_ok-right.ensures.came) h) c.made_of_two.ensures

pub connected-returns-then-skips-clause-came : goal.connected-returns-then-skips-clause-came
connected-returns-then-skips-clause-came g t c =
    let w = world_told (g.L.Lookup.told c.args.scene.now.lookup.now) in
    let p = c.args.scene.now.place in
    let v = c.args.scene.now.variables.now ++ c.args.bound.now in
    if_ok c.told.result _ _ (λ o h. connect_skipped c.args.connective (truth p (run c.args.left.now w p v)) (truth p (run c.args.right.now w p v))
    (truth_came p c.in_ok-left.ensures.came c.truth-first.ensures) (sym c.skips.ensures ∙ c.if-skips.true) h) c.told.ensures

pub connected-returns-clause-came : goal.connected-returns-clause-came
connected-returns-clause-came g t c =
    let w = world_told (g.L.Lookup.told c.args.scene.now.lookup.now) in
    let p = c.args.scene.now.place in
    let v = c.args.scene.now.variables.now ++ c.args.bound.now in
    if_ok c.told-2.result _ _ (λ o h. connect_both c.args.connective (truth p (run c.args.left.now w p v)) (truth p (run c.args.right.now w p v))
    (truth_came p c.in_ok-left.ensures.came c.truth-first.ensures) (sym c.skips.ensures ∙ c.if-skips.false)
    (truth_came p (at_variables c.args.right.now w p (ap (λ b. c.args.scene.now.variables.now ++ b) c.in_ok-left.ensures.bound) c.in_ok-right.ensures.came) c.truth.ensures)
    c.second.ensures h) c.told-2.ensures

pub chosen-returns-in-Err-clause-came : goal.chosen-returns-in-Err-clause-came
chosen-returns-in-Err-clause-came g t c =
    let w = world_told (g.L.Lookup.told c.args.scene.now.lookup.now) in
    let p = c.args.scene.now.place in
    let v = c.args.scene.now.variables.now ++ c.args.bound.now in
    failed_came (choice c.args.left.now c.args.right.now w p v) (truth_came p c.in_ok-condition.ensures.came (sym c.in-Err.is ∙ c.truth.ensures))

pub chosen-returns-in-Ok-true-clause-came : goal.chosen-returns-in-Ok-true-clause-came
chosen-returns-in-Ok-true-clause-came g t c =
    let w = world_told (g.L.Lookup.told c.args.scene.now.lookup.now) in
    let p = c.args.scene.now.place in
    let v = c.args.scene.now.variables.now ++ c.args.bound.now in
    if_ok c.work-in-Ok-true.result _ _ (λ o h. known_came (choice c.args.left.now c.args.right.now w p v)
    (truth_came p c.in_ok-condition.ensures.came (sym (c.in-Ok-true.is ∙ ap (λ b. Ok b) c.in-Ok-true.field-0-test) ∙ c.truth.ensures))
    (at_variables c.args.left.now w p (ap (λ b. c.args.scene.now.variables.now ++ b) c.in_ok-condition.ensures.bound) h)) c.work-in-Ok-true.ensures.came

pub chosen-returns-in-Ok-false-clause-came : goal.chosen-returns-in-Ok-false-clause-came
chosen-returns-in-Ok-false-clause-came g t c =
    let w = world_told (g.L.Lookup.told c.args.scene.now.lookup.now) in
    let p = c.args.scene.now.place in
    let v = c.args.scene.now.variables.now ++ c.args.bound.now in
    if_ok c.work-in-Ok-false.result _ _ (λ o h. known_came (choice c.args.left.now c.args.right.now w p v)
    (truth_came p c.in_ok-condition.ensures.came (sym (c.in-Ok-false.is ∙ ap (λ b. Ok b) c.in-Ok-false.field-0-test) ∙ c.truth.ensures))
    (at_variables c.args.right.now w p (ap (λ b. c.args.scene.now.variables.now ++ b) c.in_ok-condition.ensures.bound) h)) c.work-in-Ok-false.ensures.came

pub aggregated-returns-in-Err-clause-came : goal.aggregated-returns-in-Err-clause-came
aggregated-returns-in-Err-clause-came g t c =
    let w = world_told (g.L.Lookup.told c.args.scene.now.lookup.now) in
    let p = c.args.scene.now.place in
    let v = c.args.scene.now.variables.now ++ c.args.bound.now in
    source_fault c.args.aggregate p (gathered_from c.args.aggregate c.args.body.now c.args.condition.now w p v)
    (came_is c.in-Err.is c.in_ok-source.ensures.came)

pub aggregated-returns-in-Ok-clause-came : goal.aggregated-returns-in-Ok-clause-came
aggregated-returns-in-Ok-clause-came g t c =
    let w = world_told (g.L.Lookup.told c.args.scene.now.lookup.now) in
    let p = c.args.scene.now.place in
    let v = c.args.scene.now.variables.now ++ c.args.bound.now in
    if_ok c.values_of.result _ _ (λ o h. source_known c.args.aggregate p (gathered_from c.args.aggregate c.args.body.now c.args.condition.now w p v)
    (came_is (c.in-Ok.is ∙ ap (λ s. Ok s) (sym c.set-in-Ok.ensures)) c.in_ok-source.ensures.came)
    (values_at c.args.aggregate c.args.body.now c.args.condition.now w p c.set-in-Ok.result.now (ap (λ b. c.args.scene.now.variables.now ++ b) c.in_ok-source.ensures.bound)
    h)) c.values_of.ensures.came

pub turn-returns-clause-folds : goal.turn-returns-clause-folds
turn-returns-clause-folds g t c =
    let w = world_told (g.L.Lookup.told c.args.scene.now.lookup.now) in
    let p = c.args.scene.now.place in
    let v = c.args.scene.now.variables.now ++ c.args.bound.now in
    bound_came c.args.total.now.aggregate c.args.body.now c.args.condition.now w p c.args.scene.now.variables.now c.args.bound.now c.args.value.now
    (c.in_ok-push.ensures.ok ∙ ap (λ s. c.args.bound.now ++ s ∷ []) (c.in_ok-one.ensures ∙ ap (λ x. x ∷ []) c.in_ok-copy.ensures))
    c.in_ok-bound_turn.ensures.folds

pub values_of-loop-k-preserved : goal.values_of-loop-k-preserved
values_of-loop-k-preserved g t c =
    let w = world_told (g.L.Lookup.told c.args.scene.now.lookup.now) in
    let p = c.args.scene.now.place in
    let v = c.args.scene.now.variables.now ++ c.args.bound.now in
    record {
      reached =
          reached_more (with_part c.args.aggregate) (start c.args.aggregate) (turn_of c.args.aggregate c.args.body.now c.args.condition.now w p v)
          c.args.set.now c.args.uses.now c.at.ensures c.loop-k.invariant.reached
          (turned c.args.body.now c.args.condition.now w p c.args.scene.now.variables.now c.at.result.now c.loop-k.invariant.aggregate c.loop-k.invariant.bound
          c.in_ok-turn.ensures.folds);
      bound = c.in_ok-turn.ensures.bound ∙ c.loop-k.invariant.bound;
      aggregate = c.in_ok-turn.ensures.aggregate ∙ c.loop-k.invariant.aggregate;
    }

pub set_of-loop-part-preserved : goal.set_of-loop-part-preserved
set_of-loop-part-preserved g t c =
    let w = world_told (g.L.Lookup.told c.args.scene.now.lookup.now) in
    let p = c.args.scene.now.place in
    let v = c.args.scene.now.variables.now ++ c.args.bound.now in
    record {
      reached =
          reached_more union [] (λ e. single (run e w p v)) c.args.parts.now c.args.uses.now
          (got c.args.parts.now c.loop-part.part-index c.part-item.result (omega arith) c.part-item.is) c.loop-part.invariant.reached
          (union_part w p c.part-item.result (ap (λ b. c.args.scene.now.variables.now ++ b) c.loop-part.invariant.bound) c.in_ok-part.ensures.came c.in_ok-so_far.ensures);
      bound = c.in_ok-part.ensures.bound ∙ c.loop-part.invariant.bound;
    }

pub bound_turn-returns-then-is_test-clause-folds : goal.bound_turn-returns-then-is_test-clause-folds
bound_turn-returns-then-is_test-clause-folds g t c =
    let w = world_told (g.L.Lookup.told c.args.scene.now.lookup.now) in
    let p = c.args.scene.now.place in
    let v = c.args.scene.now.variables.now ++ c.args.bound.now in
    on_ok c.take.result _ _ (λ h. at_test c.args.total.now.aggregate p (run c.args.condition.now w p v) (run c.args.body.now w p v)
    (sym c.is_test.ensures ∙ c.if-is_test.true) c.in_ok-holds.ensures.came h) c.take.ensures.so_far

pub bound_turn-returns-in-Err-clause-folds : goal.bound_turn-returns-in-Err-clause-folds
bound_turn-returns-in-Err-clause-folds g t c =
    let w = world_told (g.L.Lookup.told c.args.scene.now.lookup.now) in
    let p = c.args.scene.now.place in
    let v = c.args.scene.now.variables.now ++ c.args.bound.now in
    at_fault c.args.total.now.aggregate p (run c.args.condition.now w p v) (run c.args.body.now w p v) (sym c.is_test.ensures ∙ c.if-is_test.false)
    c.in_ok-holds.ensures.came (sym c.in-Err.is ∙ c.truth.ensures) c.fail.ensures.so_far

pub bound_turn-returns-in-Ok-false-clause-folds : goal.bound_turn-returns-in-Ok-false-clause-folds
bound_turn-returns-in-Ok-false-clause-folds g t c =
    let w = world_told (g.L.Lookup.told c.args.scene.now.lookup.now) in
    let p = c.args.scene.now.place in
    let v = c.args.scene.now.variables.now ++ c.args.bound.now in
    at_false c.args.total.now.aggregate p (run c.args.condition.now w p v) (run c.args.body.now w p v) (sym c.is_test.ensures ∙ c.if-is_test.false)
    c.in_ok-holds.ensures.came (sym (c.in-Ok-false.is ∙ ap (λ b. Ok b) c.in-Ok-false.field-0-test) ∙ c.truth.ensures)

pub bound_turn-returns-in_ok-part-in-Ok-true-clause-folds : goal.bound_turn-returns-in_ok-part-in-Ok-true-clause-folds
bound_turn-returns-in_ok-part-in-Ok-true-clause-folds g t c =
    let w = world_told (g.L.Lookup.told c.args.scene.now.lookup.now) in
    let p = c.args.scene.now.place in
    let v = c.args.scene.now.variables.now ++ c.args.bound.now in
    on_ok c.take-in-Ok-true.result _ _ (λ h. at_true c.args.total.now.aggregate p (run c.args.condition.now w p v) (run c.args.body.now w p v)
    (sym c.is_test.ensures ∙ c.if-is_test.false) c.in_ok-holds.ensures.came
    (sym (c.in-Ok-true.is ∙ ap (λ b. Ok b) c.in-Ok-true.field-0-test) ∙ c.truth.ensures)
    (at_variables c.args.body.now w p (ap (λ b. c.args.scene.now.variables.now ++ b) c.in_ok-holds.ensures.bound) c.in_ok-part-in-Ok-true.ensures.came) h)
    c.take-in-Ok-true.ensures.so_far

pub values_of-loop-k-init : goal.values_of-loop-k-init
values_of-loop-k-init g t c =
    let w = world_told (g.L.Lookup.told c.args.scene.now.lookup.now) in
    let p = c.args.scene.now.place in
    let v = c.args.scene.now.variables.now ++ c.args.bound.now in
    record {
      reached =
          total_start c.args.aggregate (turn_of c.args.aggregate c.args.body.now c.args.condition.now w p v) p c.args.set.now c.args.uses.now
          c.new-total.ensures;
      bound = refl;
      aggregate = ap (λ (t : Tally). t.aggregate) c.new-total.ensures;
    }

pub values_of-returns-clause-came : goal.values_of-returns-clause-came
values_of-returns-clause-came g t c =
    let w = world_told (g.L.Lookup.told c.args.scene.now.lookup.now) in
    let p = c.args.scene.now.place in
    let v = c.args.scene.now.variables.now ++ c.args.bound.now in
    if_ok c.finish.result _ _ (λ o h. total_end c.args.aggregate (turn_of c.args.aggregate c.args.body.now c.args.condition.now w p v) p c.args.set.now
    c.args.uses.now (omega arith) c.loop-k.invariant.aggregate c.loop-k.invariant.reached h) c.finish.ensures
