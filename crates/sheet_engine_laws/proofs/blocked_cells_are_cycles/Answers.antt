use Rattle.sheet_engine_laws.proofs.Settled as settled
use Rattle.sheet_engine_laws.proofs.blocked_cells_are_cycles.Goals as goal

pub returns : goal.returns
returns c = settled.blocked_are_cycles
