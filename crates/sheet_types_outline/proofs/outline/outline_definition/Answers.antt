use Rattle.sheet_types_outline.proofs.FillLemmas.{alike_sorts}
use Rattle.sheet_types_outline.proofs.outline.outline_definition.Goals as goal

pub fill-requires-clause-alike : goal.fill-requires-clause-alike
fill-requires-clause-alike c = alike_sorts c.into_columns-columns.result c.in_ok-resolved.resolved.contents c.in_ok-resolved.ensures.sorts
