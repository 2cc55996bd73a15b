use Rattle.std.proofs.Common.{◌≡◌, ◌++◌, length}
use Rattle.std.specs.Prelude.{map, [], ◌∷◌}
use Rattle.sheet_meaning.specs.Procedure.{first_variables}
use Rattle.sheet_state_arguments.proofs.variables.first_variables.Given as goal

abbrev pub decreases-loop-argument : goal.decreases-loop-argument
decreases-loop-argument l = length l.rest

abbrev pub invariant-loop-argument : goal.invariant-loop-argument
invariant-loop-argument l = l.variables ++ map (λ a. a ∷ []) l.rest ≡ first_variables l.fn.caller l.arguments
