use Rattle.sheet_engine.proofs.Snocs.{has_place}
use Rattle.sheet_engine.proofs.settling.first_of.Goals as goal

pub returns : goal.returns
returns c = has_place c.args.cells.now 0 c.at.result c.at.ensures
