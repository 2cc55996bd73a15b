use Rattle.sheet_procs_laws.proofs.Running as lemmas
use Rattle.sheet_procs_laws.proofs.statements_stay_well_formed.Goals as goal

pub returns : goal.returns
returns c = lemmas.statements_stay_well_formed
