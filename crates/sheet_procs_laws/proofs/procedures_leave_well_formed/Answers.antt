use Rattle.sheet_procs_laws.proofs.Running as lemmas
use Rattle.sheet_procs_laws.proofs.procedures_leave_well_formed.Goals as goal

pub returns : goal.returns
returns c = lemmas.procedures_leave_well_formed
