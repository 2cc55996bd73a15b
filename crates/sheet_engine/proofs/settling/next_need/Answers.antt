use Rattle.sheet_engine.proofs.Snocs.{has_place}
use Rattle.sheet_engine.proofs.settling.next_need.Goals as goal

pub returns-then-is_lacking-clause-needed : goal.returns-then-is_lacking-clause-needed
returns-then-is_lacking-clause-needed c = has_place c.args.needs.now c.loop-place.place c.at-cell.result c.at-cell.ensures
