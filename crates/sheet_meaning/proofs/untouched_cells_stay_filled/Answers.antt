use Rattle.sheet_meaning.proofs.Untouched as laws
use Rattle.sheet_meaning.proofs.untouched_cells_stay_filled.Goals as goal

pub returns : goal.returns
returns c = laws.untouched_cells_stay_filled
