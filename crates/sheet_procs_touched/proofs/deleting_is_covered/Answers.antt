use Rattle.sheet_procs_touched.proofs.Covering as lemmas
use Rattle.sheet_procs_touched.proofs.deleting_is_covered.Goals as goal

pub returns : goal.returns
returns c = lemmas.deleting_is_covered
