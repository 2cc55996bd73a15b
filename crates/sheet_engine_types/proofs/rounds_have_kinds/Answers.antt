use Rattle.sheet_engine_types.proofs.Rounds as rounds
use Rattle.sheet_engine_types.proofs.rounds_have_kinds.Goals as goal

pub returns : goal.returns
returns c = rounds.rounds_have_kinds
