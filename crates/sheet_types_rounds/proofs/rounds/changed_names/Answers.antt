use Rattle.std.proofs.Common.{rules}
use Rattle.sheet_types_rounds.proofs.SteadyLemmas.{agree_all}
use Rattle.sheet_types_rounds.proofs.rounds.changed_names.Goals as goal

pub returns-clause-names : goal.returns-clause-names
returns-clause-names c = agree_all _ _ _ _ _ (search rules) c.loop-number.invariant
