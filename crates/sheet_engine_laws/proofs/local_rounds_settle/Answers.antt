use Rattle.sheet_engine_laws.proofs.Among as among
use Rattle.sheet_engine_laws.proofs.local_rounds_settle.Goals as goal

pub returns : goal.returns
returns c = among.local_rounds_settle
