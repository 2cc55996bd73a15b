use Rattle.sheet_http.proofs.LackLemmas as lemma
use Rattle.sheet_http.proofs.laws.lacking_is_one.Goals as goal

pub returns : goal.returns
returns c = record { one = lemma.one; waits = lemma.waits }
