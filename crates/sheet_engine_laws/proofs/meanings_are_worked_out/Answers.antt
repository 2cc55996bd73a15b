use Rattle.sheet_engine_laws.proofs.Settled as settled
use Rattle.sheet_engine_laws.proofs.meanings_are_worked_out.Goals as goal

pub returns : goal.returns
returns c = settled.meanings_are_worked_out
