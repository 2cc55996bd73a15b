use Rattle.sheet_meaning.proofs.Reaching as reaching
use Rattle.sheet_meaning.proofs.reached_is_all.Goals as goal

pub returns : goal.returns
returns c = reaching.reached_is_all
