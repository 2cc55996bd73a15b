use Rattle.std.proofs.Common.{rules}
use Rattle.sheet_types_rounds.proofs.WaitLaws.{waits-Child, waits-Up, waits-Negate, waits-Not, waits-Binary, waits-If, waits-Call, waits-Gather}
use Rattle.sheet_types_rounds.proofs.WaitLaws.{waits-GatherWhere, waits-Test, waits-Set}
use Rattle.sheet_types_rounds.proofs.waiting.+waiting.Goals as goal

pub waits-returns-in-Child : goal.waits-returns-in-Child
waits-returns-in-Child t c = rw (c.in-Child.is, waits-Child) (search rules)

pub waits-returns-in-Up : goal.waits-returns-in-Up
waits-returns-in-Up t c = rw (c.in-Up.is, waits-Up) (search rules)

pub waits-returns-in-Negate : goal.waits-returns-in-Negate
waits-returns-in-Negate t c = rw (c.in-Negate.is, waits-Negate) (search rules)

pub waits-returns-in-Not : goal.waits-returns-in-Not
waits-returns-in-Not t c = rw (c.in-Not.is, waits-Not) (search rules)

pub waits-returns-in-Binary : goal.waits-returns-in-Binary
waits-returns-in-Binary t c = rw (c.in-Binary.is, waits-Binary) (search rules)

pub waits-returns-in-If : goal.waits-returns-in-If
waits-returns-in-If t c = rw (c.in-If.is, waits-If) (search rules)

pub waits-returns-in-Call : goal.waits-returns-in-Call
waits-returns-in-Call t c = rw (c.in-Call.is, waits-Call) (search rules)

pub waits-returns-in-Gather : goal.waits-returns-in-Gather
waits-returns-in-Gather t c = rw (c.in-Gather.is, waits-Gather) (search rules)

pub waits-returns-in-GatherWhere : goal.waits-returns-in-GatherWhere
waits-returns-in-GatherWhere t c = rw (c.in-GatherWhere.is, waits-GatherWhere) (search rules)

pub waits-returns-in-Test : goal.waits-returns-in-Test
waits-returns-in-Test t c = rw (c.in-Test.is, waits-Test) (search rules)

pub waits-returns-in-Set : goal.waits-returns-in-Set
waits-returns-in-Set t c = rw (c.in-Set.is, waits-Set) (search rules)
