use Rattle.sheet_engine_laws.proofs.Settled as settled
use Rattle.sheet_engine_laws.proofs.waiting_chains_are_cycles.Goals as goal

pub returns : goal.returns
returns c = settled.chains_are_cycles
