use Rattle.std.proofs.Common.{rules}
use Rattle.sheet_types_rounds.proofs.KnownLemmas.{known_all}
use Rattle.sheet_types_rounds.proofs.known.known_names.Goals as goal

pub returns : goal.returns
returns c = known_all _ _ _ _ (search rules) c.loop-number.invariant
