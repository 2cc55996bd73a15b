use Rattle.sheet_types_bodies.proofs.Holding.{list_fits}
use Rattle.sheet_types_bodies.proofs.law.resolved_statements_are_well_typed.Goals as goal

pub returns : goal.returns
returns c = list_fits (record { has = c.typed_formulas_have_their_kinds.ensures })
