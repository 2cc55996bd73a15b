use Rattle.std.proofs.Common.{ap, ◌∙◌}
use Rattle.std.specs.Prelude.{map}
use Rattle.plain_lists.specs.Told.{scene}
use Rattle.sheet_columns.specs.declared.formula.Core.{ObjectStep, StateStep, FormulaStep, Up, Combine, Compare, Order, Arithmetic, Negate, Join, Not, Connect}
use Rattle.sheet_columns.specs.declared.formula.Core.{Count, Only, Extreme}
use Rattle.sheet_meaning.specs.Run.{and_then}
use Rattle.sheet_meaning.specs.Formula.{run, bind, step, extent_of, stored_of, worked_of, parent_of}
use Rattle.plain_formulas.specs.Forms.{combined, compared, in_order, calculated, negated, joined_texts, denied, connected, counted, only, extreme_of}
use Rattle.plain_formulas.proofs.Laws.{same_if_ok, pair_at, unary, binary, set_form, if_form, comprehension_form, sum_form, quantify_form, run-ObjectStep}
use Rattle.plain_formulas.proofs.Laws.{run-StateStep, run-FormulaStep, run-Up, run-Combine, run-Compare, run-Order, run-Arithmetic, run-Negate, run-Join}
use Rattle.plain_formulas.proofs.Laws.{run-Not, run-Connect, run-Count, run-Only, run-Extreme}
use Rattle.plain_formulas.proofs.evaluate.+work.Goals as goal

pub work_out-returns-in_ok-objects-in-ObjectStep : goal.work_out-returns-in_ok-objects-in-ObjectStep
work_out-returns-in_ok-objects-in-ObjectStep t c =
    let w = scene c.args.state.now c.args.worked.now in
    let p = c.args.place in
    let v = c.args.variables.now in
    same_if_ok c.stepped.result
    (unary w p v (λ r. and_then r (step (extent_of w c.in-ObjectStep.column))) (λ e. ObjectStep e c.in-ObjectStep.column)
    (run-ObjectStep w p v c.in-ObjectStep.column) c.args.core.now _ _ _ c.in-ObjectStep.is c.get.ensures c.in_ok-objects-in-ObjectStep.ensures)
    c.stepped.ensures

pub work_out-returns-in_ok-objects-in-StateStep : goal.work_out-returns-in_ok-objects-in-StateStep
work_out-returns-in_ok-objects-in-StateStep t c =
    let w = scene c.args.state.now c.args.worked.now in
    let p = c.args.place in
    let v = c.args.variables.now in
    same_if_ok c.stepped-in-StateStep.result
    (unary w p v (λ r. and_then r (step (stored_of w c.in-StateStep.column))) (λ e. StateStep e c.in-StateStep.column)
    (run-StateStep w p v c.in-StateStep.column) c.args.core.now _ _ _ c.in-StateStep.is c.get-in-StateStep.ensures c.in_ok-objects-in-StateStep.ensures)
    c.stepped-in-StateStep.ensures

pub work_out-returns-in_ok-objects-in-FormulaStep : goal.work_out-returns-in_ok-objects-in-FormulaStep
work_out-returns-in_ok-objects-in-FormulaStep t c =
    let w = scene c.args.state.now c.args.worked.now in
    let p = c.args.place in
    let v = c.args.variables.now in
    same_if_ok c.stepped-in-FormulaStep.result
    (unary w p v (λ r. and_then r (step (worked_of w c.in-FormulaStep.column))) (λ e. FormulaStep e c.in-FormulaStep.column)
    (run-FormulaStep w p v c.in-FormulaStep.column) c.args.core.now _ _ _ c.in-FormulaStep.is c.get-in-FormulaStep.ensures
    c.in_ok-objects-in-FormulaStep.ensures)
    c.stepped-in-FormulaStep.ensures

pub work_out-returns-in_ok-objects-in-Up : goal.work_out-returns-in_ok-objects-in-Up
work_out-returns-in_ok-objects-in-Up t c =
    let w = scene c.args.state.now c.args.worked.now in
    let p = c.args.place in
    let v = c.args.variables.now in
    same_if_ok c.stepped-in-Up.result
    (unary w p v (λ r. and_then r (step (parent_of w))) Up (run-Up w p v) c.args.core.now _ _ _ c.in-Up.is c.get-in-Up.ensures c.in_ok-objects-in-Up.ensures)
    c.stepped-in-Up.ensures

pub work_out-returns-in_ok-parts-in-Set : goal.work_out-returns-in_ok-parts-in-Set
work_out-returns-in_ok-parts-in-Set t c =
    let w = scene c.args.state.now c.args.worked.now in
    let p = c.args.place in
    let v = c.args.variables.now in
    same_if_ok c.set_of.result
    (set_form w p v c.args.core.now _ _ _ c.in-Set.is c.as_slice.ensures c.in_ok-parts-in-Set.ensures)
    c.set_of.ensures

pub work_out-returns-in_ok-right-in-Combine : goal.work_out-returns-in_ok-right-in-Combine
work_out-returns-in_ok-right-in-Combine t c =
    let w = scene c.args.state.now c.args.worked.now in
    let p = c.args.place in
    let v = c.args.variables.now in
    same_if_ok c.combined.result
    (binary w p v (combined c.in-Combine.operator) (Combine c.in-Combine.operator) (run-Combine w p v c.in-Combine.operator) c.args.core.now _ _ _ _ _ _
    c.in-Combine.is c.get-in-Combine.ensures c.get-in-Combine-2.ensures c.in_ok-left-in-Combine.ensures c.in_ok-right-in-Combine.ensures)
    c.combined.ensures

pub work_out-returns-in_ok-right-in-Compare : goal.work_out-returns-in_ok-right-in-Compare
work_out-returns-in_ok-right-in-Compare t c =
    let w = scene c.args.state.now c.args.worked.now in
    let p = c.args.place in
    let v = c.args.variables.now in
    same_if_ok c.compared.result
    (binary w p v (compared c.in-Compare.test) (Compare c.in-Compare.test) (run-Compare w p v c.in-Compare.test) c.args.core.now _ _ _ _ _ _ c.in-Compare.is
    c.get-in-Compare.ensures c.get-in-Compare-2.ensures c.in_ok-left-in-Compare.ensures c.in_ok-right-in-Compare.ensures)
    c.compared.ensures

pub work_out-returns-in_ok-right-in-Order : goal.work_out-returns-in_ok-right-in-Order
work_out-returns-in_ok-right-in-Order t c =
    let w = scene c.args.state.now c.args.worked.now in
    let p = c.args.place in
    let v = c.args.variables.now in
    same_if_ok c.in_order.result
    (binary w p v (in_order c.in-Order.test p) (Order c.in-Order.test) (run-Order w p v c.in-Order.test) c.args.core.now _ _ _ _ _ _ c.in-Order.is
    c.get-in-Order.ensures c.get-in-Order-2.ensures c.in_ok-left-in-Order.ensures c.in_ok-right-in-Order.ensures)
    c.in_order.ensures

pub work_out-returns-in_ok-right-in-Arithmetic : goal.work_out-returns-in_ok-right-in-Arithmetic
work_out-returns-in_ok-right-in-Arithmetic t c =
    let w = scene c.args.state.now c.args.worked.now in
    let p = c.args.place in
    let v = c.args.variables.now in
    same_if_ok c.calculated.result
    (binary w p v (calculated c.in-Arithmetic.operator p) (Arithmetic c.in-Arithmetic.operator) (run-Arithmetic w p v c.in-Arithmetic.operator) c.args.core.now
    _ _ _ _ _ _ c.in-Arithmetic.is c.get-in-Arithmetic.ensures c.get-in-Arithmetic-2.ensures c.in_ok-left-in-Arithmetic.ensures
    c.in_ok-right-in-Arithmetic.ensures)
    c.calculated.ensures

pub work_out-returns-in_ok-part-in-Negate : goal.work_out-returns-in_ok-part-in-Negate
work_out-returns-in_ok-part-in-Negate t c =
    let w = scene c.args.state.now c.args.worked.now in
    let p = c.args.place in
    let v = c.args.variables.now in
    same_if_ok c.negated.result
    (unary w p v (negated p) Negate (run-Negate w p v) c.args.core.now _ _ _ c.in-Negate.is c.get-in-Negate.ensures c.in_ok-part-in-Negate.ensures)
    c.negated.ensures

pub work_out-returns-in_ok-right-in-Join : goal.work_out-returns-in_ok-right-in-Join
work_out-returns-in_ok-right-in-Join t c =
    let w = scene c.args.state.now c.args.worked.now in
    let p = c.args.place in
    let v = c.args.variables.now in
    same_if_ok c.joined_texts.result
    (binary w p v (joined_texts p) Join (run-Join w p v) c.args.core.now _ _ _ _ _ _ c.in-Join.is c.get-in-Join.ensures c.get-in-Join-2.ensures
    c.in_ok-left-in-Join.ensures c.in_ok-right-in-Join.ensures)
    c.joined_texts.ensures

pub work_out-returns-in_ok-part-in-Not : goal.work_out-returns-in_ok-part-in-Not
work_out-returns-in_ok-part-in-Not t c =
    let w = scene c.args.state.now c.args.worked.now in
    let p = c.args.place in
    let v = c.args.variables.now in
    same_if_ok c.denied.result
    (unary w p v (denied p) Not (run-Not w p v) c.args.core.now _ _ _ c.in-Not.is c.get-in-Not.ensures c.in_ok-part-in-Not.ensures)
    c.denied.ensures

pub work_out-returns-in_ok-right-in-Connect : goal.work_out-returns-in_ok-right-in-Connect
work_out-returns-in_ok-right-in-Connect t c =
    let w = scene c.args.state.now c.args.worked.now in
    let p = c.args.place in
    let v = c.args.variables.now in
    same_if_ok c.connected.result
    (binary w p v (connected c.in-Connect.connective p) (Connect c.in-Connect.connective) (run-Connect w p v c.in-Connect.connective) c.args.core.now _ _ _ _ _
    _ c.in-Connect.is c.get-in-Connect.ensures c.get-in-Connect-2.ensures c.in_ok-left-in-Connect.ensures c.in_ok-right-in-Connect.ensures)
    c.connected.ensures

pub work_out-returns-in_ok-right-in-If : goal.work_out-returns-in_ok-right-in-If
work_out-returns-in_ok-right-in-If t c =
    let w = scene c.args.state.now c.args.worked.now in
    let p = c.args.place in
    let v = c.args.variables.now in
    same_if_ok c.chosen.result
    (if_form w p v c.args.core.now _ _ _ _ _ _ _ _ _ c.in-If.is c.get-in-If.ensures c.get-in-If-2.ensures c.get-in-If-3.ensures c.in_ok-condition-in-If.ensures
    c.in_ok-left-in-If.ensures c.in_ok-right-in-If.ensures)
    c.chosen.ensures

pub work_out-returns-in_ok-set-in-Count : goal.work_out-returns-in_ok-set-in-Count
work_out-returns-in_ok-set-in-Count t c =
    let w = scene c.args.state.now c.args.worked.now in
    let p = c.args.place in
    let v = c.args.variables.now in
    same_if_ok c.counted.result
    (unary w p v counted Count (run-Count w p v) c.args.core.now _ _ _ c.in-Count.is c.get-in-Count.ensures c.in_ok-set-in-Count.ensures)
    c.counted.ensures

pub work_out-returns-in_ok-set-in-Only : goal.work_out-returns-in_ok-set-in-Only
work_out-returns-in_ok-set-in-Only t c =
    let w = scene c.args.state.now c.args.worked.now in
    let p = c.args.place in
    let v = c.args.variables.now in
    same_if_ok c.only.result
    (unary w p v (only p) Only (run-Only w p v) c.args.core.now _ _ _ c.in-Only.is c.get-in-Only.ensures c.in_ok-set-in-Only.ensures)
    c.only.ensures

pub work_out-returns-in_ok-set-in-Extreme : goal.work_out-returns-in_ok-set-in-Extreme
work_out-returns-in_ok-set-in-Extreme t c =
    let w = scene c.args.state.now c.args.worked.now in
    let p = c.args.place in
    let v = c.args.variables.now in
    same_if_ok c.extreme_of.result
    (unary w p v (extreme_of c.in-Extreme.extremum p) (Extreme c.in-Extreme.extremum) (run-Extreme w p v c.in-Extreme.extremum) c.args.core.now _ _ _
    c.in-Extreme.is c.get-in-Extreme.ensures c.in_ok-set-in-Extreme.ensures)
    c.extreme_of.ensures

pub work_out-returns-in_ok-pairs-in-Comprehension : goal.work_out-returns-in_ok-pairs-in-Comprehension
work_out-returns-in_ok-pairs-in-Comprehension t c =
    let w = scene c.args.state.now c.args.worked.now in
    let p = c.args.place in
    let v = c.args.variables.now in
    same_if_ok c.comprehended.result
    (comprehension_form w p v c.args.core.now _ _ _ _ _ _ _ _ c.in-Comprehension.is c.get-in-Comprehension-3.ensures c.get-in-Comprehension.ensures
    c.get-in-Comprehension-2.ensures c.in_ok-source-in-Comprehension.ensures
    (c.in_ok-pairs-in-Comprehension.ensures ∙ ap (map (pair_at w p v c.get-in-Comprehension-2.result.now c.get-in-Comprehension-3.result.now))
    c.values_of.ensures))
    c.comprehended.ensures

pub work_out-returns-in_ok-pairs-in-Sum : goal.work_out-returns-in_ok-pairs-in-Sum
work_out-returns-in_ok-pairs-in-Sum t c =
    let w = scene c.args.state.now c.args.worked.now in
    let p = c.args.place in
    let v = c.args.variables.now in
    same_if_ok c.summed.result
    (sum_form w p v c.args.core.now _ _ _ _ _ _ _ _ c.in-Sum.is c.get-in-Sum-3.ensures c.get-in-Sum.ensures c.get-in-Sum-2.ensures c.in_ok-source-in-Sum.ensures
    (c.in_ok-pairs-in-Sum.ensures ∙ ap (map (pair_at w p v c.get-in-Sum-2.result.now c.get-in-Sum-3.result.now)) c.values_of-in-Sum.ensures))
    c.summed.ensures

pub work_out-returns-in_ok-conditions-in-Quantify : goal.work_out-returns-in_ok-conditions-in-Quantify
work_out-returns-in_ok-conditions-in-Quantify t c =
    let w = scene c.args.state.now c.args.worked.now in
    let p = c.args.place in
    let v = c.args.variables.now in
    same_if_ok c.quantified.result
    (quantify_form w p v c.in-Quantify.quantifier c.args.core.now _ _ _ _ _ _ c.in-Quantify.is c.get-in-Quantify.ensures c.get-in-Quantify-2.ensures
    c.in_ok-source-in-Quantify.ensures
    (c.in_ok-conditions-in-Quantify.ensures ∙ ap (map (λ x. run c.get-in-Quantify-2.result.now w p (bind v x))) c.values_of-in-Quantify.ensures))
    c.quantified.ensures
