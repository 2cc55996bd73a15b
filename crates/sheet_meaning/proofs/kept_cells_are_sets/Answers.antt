use Rattle.sheet_meaning.proofs.Keeping as laws
use Rattle.sheet_meaning.proofs.kept_cells_are_sets.Goals as goal

pub returns : goal.returns
returns c = laws.kept_cells_are_sets
