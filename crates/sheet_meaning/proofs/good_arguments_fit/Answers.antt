use Rattle.sheet_meaning.proofs.Fitting as laws
use Rattle.sheet_meaning.proofs.good_arguments_fit.Goals as goal

pub returns : goal.returns
returns c = laws.good_arguments_fit
