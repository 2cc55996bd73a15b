use Rattle.std.proofs.Common.{sym, subst, ◌∙◌}
use Rattle.sheet_types_formulas.specs.Answers.{Answers}
use Rattle.sheet_types_formulas.specs.Names.{within}
use Rattle.sheet_types_formulas.specs.Typing.{typed}
use Rattle.sheet_types_formulas.proofs.Laws.{typed-Child, typed-Up, typed-Negate, typed-Not, typed-Binary, typed-If, typed-Set, typed-Call, typed-Gather}
use Rattle.sheet_types_formulas.proofs.Laws.{typed-GatherWhere, typed-Test}
use Rattle.sheet_types_formulas.proofs.Recursion.{bound_within, part_typed, part_refused}
use Rattle.sheet_types_formulas.proofs.formula.+typing.Goals as goal

pub typed-returns-in-Child : goal.typed-returns-in-Child
typed-returns-in-Child t c = rw (c.in-Child.is, typed-Child, sym c.get.ensures) c.typed_step.ensures

pub typed-returns-in-Up : goal.typed-returns-in-Up
typed-returns-in-Up t c = rw (c.in-Up.is, typed-Up, sym c.get-in-Up.ensures) c.typed_up.ensures

pub typed-returns-in-Negate : goal.typed-returns-in-Negate
typed-returns-in-Negate t c = rw (c.in-Negate.is, typed-Negate, sym c.get-in-Negate.ensures) c.typed_negation.ensures

pub typed-returns-in-Not : goal.typed-returns-in-Not
typed-returns-in-Not t c = rw (c.in-Not.is, typed-Not, sym c.get-in-Not.ensures) c.typed_denial.ensures

pub typed-returns-in-Binary : goal.typed-returns-in-Binary
typed-returns-in-Binary t c = rw (c.in-Binary.is, typed-Binary, sym c.get-in-Binary.ensures, sym c.get-in-Binary-2.ensures) c.typed_operation.ensures

pub typed-returns-in-If : goal.typed-returns-in-If
typed-returns-in-If t c = rw (c.in-If.is, typed-If, sym c.get-in-If.ensures, sym c.get-in-If-2.ensures, sym c.get-in-If-3.ensures) c.typed_choice.ensures

pub typed-returns-in-Set : goal.typed-returns-in-Set
typed-returns-in-Set t c = rw (c.in-Set.is, typed-Set, sym c.as_slice.ensures) c.typed_set.ensures

pub typed-returns-in-Call : goal.typed-returns-in-Call
typed-returns-in-Call t c = rw (c.in-Call.is, typed-Call, sym c.get-in-Call.ensures) c.typed_call.ensures

pub typed-returns-in-Gather : goal.typed-returns-in-Gather
typed-returns-in-Gather t c = rw (c.in-Gather.is, typed-Gather, sym c.get-in-Gather.ensures, sym c.get-in-Gather-2.ensures) c.typed_gathering.ensures

pub typed-returns-in-GatherWhere : goal.typed-returns-in-GatherWhere
typed-returns-in-GatherWhere t c =
    rw (c.in-GatherWhere.is, typed-GatherWhere, sym c.get-in-GatherWhere.ensures, sym c.get-in-GatherWhere-2.ensures, sym c.get-in-GatherWhere-3.ensures)
    c.typed_choosing.ensures

pub typed-returns-in-Test : goal.typed-returns-in-Test
typed-returns-in-Test t c = rw (c.in-Test.is, typed-Test, sym c.get-in-Test.ensures, sym c.get-in-Test-2.ensures) c.typed_test.ensures

pub typed_inside-returns : goal.typed_inside-returns
typed_inside-returns t c =
    subst (λ r. Answers c.typed.result (typed c.args.part.now r))
    (bound_within c.args.scope.now c.args.bound.now c.as_slice.result.now c.args.name.now c.args.kind (c.as_slice.ensures.value ∙ c.in_ok-inner.ensures))
    c.typed.ensures

pub typed_parts-loop-part-preserved : goal.typed_parts-loop-part-preserved
typed_parts-loop-part-preserved t c =
    part_typed c.args.parts.now c.loop-part.part-index c.part-item.result (within c.args.scope.now c.args.bound.now) c.loop-part.list.items
    c.push.new.self.items c.in-Ok.part
    c.loop-part-test.true c.part-item.is c.loop-part.invariant c.in-Ok.ensures c.in_ok-push-in-Ok.ensures.items

pub typed_parts-returns-in-Err : goal.typed_parts-returns-in-Err
typed_parts-returns-in-Err t c =
    part_refused c.args.parts.now c.loop-part.part-index c.part-item.result (within c.args.scope.now c.args.bound.now) c.loop-part.list.items c.in-Err.refusal
    c.loop-part-test.true c.part-item.is c.loop-part.invariant c.in-Err.ensures
