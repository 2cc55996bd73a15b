use Rattle.sheet_procs_touched.proofs.Covering as lemmas
use Rattle.sheet_procs_touched.proofs.making_is_covered.Goals as goal

pub returns : goal.returns
returns c = lemmas.making_is_covered
