use Rattle.sheet_meaning.proofs.Pages as pages
use Rattle.sheet_meaning.proofs.support_suffices.Goals as goal

pub returns : goal.returns
returns c = pages.support_suffices
