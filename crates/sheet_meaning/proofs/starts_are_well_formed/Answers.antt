use Rattle.sheet_meaning.proofs.Starting as laws
use Rattle.sheet_meaning.proofs.starts_are_well_formed.Goals as goal

pub returns : goal.returns
returns c = laws.starts_are_well_formed
