use Rattle.std.proofs.Common.{◌≡◌, ◌++◌, length}
use Rattle.std.specs.Prelude.{map, [], ◌∷◌}
use Rattle.sheet_meaning.specs.Procedure.{first_variables}
use Rattle.plain_meaning.proofs.showing.first_variables.Given as goal

abbrev pub decreases-loop-value : goal.decreases-loop-value
decreases-loop-value l = length l.rest

abbrev pub invariant-loop-value : goal.invariant-loop-value
invariant-loop-value l = l.list.items ++ map (λ a. a ∷ []) l.rest ≡ first_variables l.fn.caller l.arguments
