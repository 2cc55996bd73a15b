use Rattle.sheet_engine_types.proofs.Rounds as rounds
use Rattle.sheet_engine_types.proofs.values_have_kinds.Goals as goal

pub returns : goal.returns
returns c = rounds.values_have_kinds
