use Rattle.sheet_procs_touched.proofs.Covering as lemmas
use Rattle.sheet_procs_touched.proofs.setting_is_covered.Goals as goal

pub returns : goal.returns
returns c = lemmas.setting_is_covered
