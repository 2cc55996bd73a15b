use Rattle.sheet_types_rounds.specs.Mentions.{AgreeBelow}
use Rattle.sheet_types_rounds.proofs.rounds.changed_names.Given as goal

abbrev pub invariant-loop-number : goal.invariant-loop-number
invariant-loop-number l = AgreeBelow l.number l.names.items l.columns l.old l.new
