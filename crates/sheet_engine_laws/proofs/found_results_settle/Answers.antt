use Rattle.sheet_engine_laws.proofs.Settled as settled
use Rattle.sheet_engine_laws.proofs.found_results_settle.Goals as goal

pub returns : goal.returns
returns c = settled.found_results_settle
