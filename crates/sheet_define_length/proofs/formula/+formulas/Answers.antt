use Rattle.std.proofs.Common.{sym}
use Rattle.sheet_syntax_print.proofs.Laws.{text-Child, text-Up, text-Negate, text-Not, text-Binary, text-If, text-Call, text-Gather, text-GatherWhere}
use Rattle.sheet_syntax_print.proofs.Laws.{text-Test, text-Set}
use Rattle.sheet_define_length.proofs.formula.+formulas.Goals as goal

pub count_formula-returns-in-Child : goal.count_formula-returns-in-Child
count_formula-returns-in-Child t c = rw (c.in-Child.is, text-Child, sym c.get.ensures) c.count_child.ensures

pub count_formula-returns-in-Up : goal.count_formula-returns-in-Up
count_formula-returns-in-Up t c = rw (c.in-Up.is, text-Up, sym c.get-in-Up.ensures) c.count_up.ensures

pub count_formula-returns-in-Negate : goal.count_formula-returns-in-Negate
count_formula-returns-in-Negate t c = rw (c.in-Negate.is, text-Negate, sym c.get-in-Negate.ensures) c.count_prefixed.ensures

pub count_formula-returns-in-Not : goal.count_formula-returns-in-Not
count_formula-returns-in-Not t c = rw (c.in-Not.is, text-Not, sym c.get-in-Not.ensures) c.count_prefixed-in-Not.ensures

pub count_formula-returns-in-Binary : goal.count_formula-returns-in-Binary
count_formula-returns-in-Binary t c = rw (c.in-Binary.is, text-Binary, sym c.get-in-Binary.ensures, sym c.get-in-Binary-2.ensures) c.count_operation.ensures

pub count_formula-returns-in-If : goal.count_formula-returns-in-If
count_formula-returns-in-If t c = rw (c.in-If.is, text-If, sym c.get-in-If.ensures, sym c.get-in-If-2.ensures, sym c.get-in-If-3.ensures) c.count_choice.ensures

pub count_formula-returns-in-Call : goal.count_formula-returns-in-Call
count_formula-returns-in-Call t c = rw (c.in-Call.is, text-Call, sym c.get-in-Call.ensures) c.count_call.ensures

pub count_formula-returns-in-Gather : goal.count_formula-returns-in-Gather
count_formula-returns-in-Gather t c = rw (c.in-Gather.is, text-Gather, sym c.get-in-Gather.ensures, sym c.get-in-Gather-2.ensures) c.count_gathered.ensures

pub count_formula-returns-in-GatherWhere : goal.count_formula-returns-in-GatherWhere
count_formula-returns-in-GatherWhere t c =
    rw (c.in-GatherWhere.is, text-GatherWhere, sym c.get-in-GatherWhere.ensures, sym c.get-in-GatherWhere-2.ensures, sym c.get-in-GatherWhere-3.ensures)
    c.count_chosen.ensures

pub count_formula-returns-in-Test : goal.count_formula-returns-in-Test
count_formula-returns-in-Test t c = rw (c.in-Test.is, text-Test, sym c.get-in-Test.ensures, sym c.get-in-Test-2.ensures) c.count_test.ensures

pub count_formula-returns-in-Set : goal.count_formula-returns-in-Set
count_formula-returns-in-Set t c = rw (c.in-Set.is, text-Set, sym c.as_slice.ensures) c.count_set.ensures
