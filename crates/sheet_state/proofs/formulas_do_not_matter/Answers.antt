use Rattle.sheet_state.proofs.Schemas.{formulas_dont_matter as law}
use Rattle.sheet_state.proofs.formulas_do_not_matter.Goals as goal

pub returns : goal.returns
returns c = law
