use Rattle.std.proofs.Common.{sym}
use Rattle.sheet_syntax_print.proofs.Laws.{text-Child, text-Up, text-Negate, text-Not, text-Binary, text-If, text-Call, text-Gather, text-GatherWhere}
use Rattle.sheet_syntax_print.proofs.Laws.{text-Test, text-Set}
use Rattle.sheet_syntax_print.proofs.formula.+formulas.Goals as goal

pub append_formula-returns-in-Child : goal.append_formula-returns-in-Child
append_formula-returns-in-Child t c = rw (c.in-Child.is, text-Child, sym c.get.ensures) c.append_child.ensures

pub append_formula-returns-in-Up : goal.append_formula-returns-in-Up
append_formula-returns-in-Up t c = rw (c.in-Up.is, text-Up, sym c.get-in-Up.ensures) c.append_up.ensures

pub append_formula-returns-in-Negate : goal.append_formula-returns-in-Negate
append_formula-returns-in-Negate t c = rw (c.in-Negate.is, text-Negate, sym c.get-in-Negate.ensures) c.append_prefixed.ensures

pub append_formula-returns-in-Not : goal.append_formula-returns-in-Not
append_formula-returns-in-Not t c = rw (c.in-Not.is, text-Not, sym c.get-in-Not.ensures) c.append_prefixed-in-Not.ensures

pub append_formula-returns-in-Binary : goal.append_formula-returns-in-Binary
append_formula-returns-in-Binary t c = rw (c.in-Binary.is, text-Binary, sym c.get-in-Binary.ensures, sym c.get-in-Binary-2.ensures) c.append_operation.ensures

pub append_formula-returns-in-If : goal.append_formula-returns-in-If
append_formula-returns-in-If t c =
    rw (c.in-If.is, text-If, sym c.get-in-If.ensures, sym c.get-in-If-2.ensures, sym c.get-in-If-3.ensures) c.append_choice.ensures

pub append_formula-returns-in-Call : goal.append_formula-returns-in-Call
append_formula-returns-in-Call t c = rw (c.in-Call.is, text-Call, sym c.get-in-Call.ensures) c.append_call.ensures

pub append_formula-returns-in-Gather : goal.append_formula-returns-in-Gather
append_formula-returns-in-Gather t c = rw (c.in-Gather.is, text-Gather, sym c.get-in-Gather.ensures, sym c.get-in-Gather-2.ensures) c.append_gathered.ensures

pub append_formula-returns-in-GatherWhere : goal.append_formula-returns-in-GatherWhere
append_formula-returns-in-GatherWhere t c =
    rw (c.in-GatherWhere.is, text-GatherWhere, sym c.get-in-GatherWhere.ensures, sym c.get-in-GatherWhere-2.ensures, sym c.get-in-GatherWhere-3.ensures)
    c.append_chosen.ensures

pub append_formula-returns-in-Test : goal.append_formula-returns-in-Test
append_formula-returns-in-Test t c = rw (c.in-Test.is, text-Test, sym c.get-in-Test.ensures, sym c.get-in-Test-2.ensures) c.append_test.ensures

pub append_formula-returns-in-Set : goal.append_formula-returns-in-Set
append_formula-returns-in-Set t c = rw (c.in-Set.is, text-Set, sym c.as_slice.ensures) c.append_set.ensures
