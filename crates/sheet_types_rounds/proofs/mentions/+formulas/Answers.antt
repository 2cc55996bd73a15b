use Rattle.std.proofs.Common.{rules}
use Rattle.sheet_types_rounds.proofs.MentionLaws.{mentions-Child, mentions-Up, mentions-Negate, mentions-Not, mentions-Binary, mentions-If}
use Rattle.sheet_types_rounds.proofs.MentionLaws.{mentions-Call, mentions-Gather, mentions-GatherWhere, mentions-Test, mentions-Set}
use Rattle.sheet_types_rounds.proofs.mentions.+formulas.Goals as goal

pub mentions-returns-in-Child : goal.mentions-returns-in-Child
mentions-returns-in-Child t c = rw (c.in-Child.is, mentions-Child) (search rules)

pub mentions-returns-in-Up : goal.mentions-returns-in-Up
mentions-returns-in-Up t c = rw (c.in-Up.is, mentions-Up) (search rules)

pub mentions-returns-in-Negate : goal.mentions-returns-in-Negate
mentions-returns-in-Negate t c = rw (c.in-Negate.is, mentions-Negate) (search rules)

pub mentions-returns-in-Not : goal.mentions-returns-in-Not
mentions-returns-in-Not t c = rw (c.in-Not.is, mentions-Not) (search rules)

pub mentions-returns-in-Binary : goal.mentions-returns-in-Binary
mentions-returns-in-Binary t c = rw (c.in-Binary.is, mentions-Binary) (search rules)

pub mentions-returns-in-If : goal.mentions-returns-in-If
mentions-returns-in-If t c = rw (c.in-If.is, mentions-If) (search rules)

pub mentions-returns-in-Call : goal.mentions-returns-in-Call
mentions-returns-in-Call t c = rw (c.in-Call.is, mentions-Call) (search rules)

pub mentions-returns-in-Gather : goal.mentions-returns-in-Gather
mentions-returns-in-Gather t c = rw (c.in-Gather.is, mentions-Gather) (search rules)

pub mentions-returns-in-GatherWhere : goal.mentions-returns-in-GatherWhere
mentions-returns-in-GatherWhere t c = rw (c.in-GatherWhere.is, mentions-GatherWhere) (search rules)

pub mentions-returns-in-Test : goal.mentions-returns-in-Test
mentions-returns-in-Test t c = rw (c.in-Test.is, mentions-Test) (search rules)

pub mentions-returns-in-Set : goal.mentions-returns-in-Set
mentions-returns-in-Set t c = rw (c.in-Set.is, mentions-Set) (search rules)
