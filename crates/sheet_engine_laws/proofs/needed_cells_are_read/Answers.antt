use Rattle.sheet_engine_laws.proofs.Settled as settled
use Rattle.sheet_engine_laws.proofs.needed_cells_are_read.Goals as goal

pub returns : goal.returns
returns c = settled.needed_are_read
