use Rattle.sheet_types_rounds.specs.Waiting.{HoldKnownBelow}
use Rattle.sheet_types_rounds.proofs.known.known_names.Given as goal

abbrev pub invariant-loop-number : goal.invariant-loop-number
invariant-loop-number l = HoldKnownBelow l.number l.known l.columns l.kinds
