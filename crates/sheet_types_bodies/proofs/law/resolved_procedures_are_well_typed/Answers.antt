use Rattle.sheet_types_bodies.proofs.Whole.{procedures_fit}
use Rattle.sheet_types_bodies.proofs.law.resolved_procedures_are_well_typed.Goals as goal

pub returns : goal.returns
returns c = procedures_fit (record { has = c.typed_formulas_have_their_kinds.ensures })
