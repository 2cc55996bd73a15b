use Rattle.std.proofs.Common.{◌≡◌}
use Rattle.sheet_types.proofs.FillLemmas.{first_settled}
use Rattle.sheet_types.proofs.elaboration.fill.Given as goal

abbrev pub invariant-loop-number : goal.invariant-loop-number
invariant-loop-number l = l.columns ≡ first_settled l.kinds 0 l.number l.initial.columns
