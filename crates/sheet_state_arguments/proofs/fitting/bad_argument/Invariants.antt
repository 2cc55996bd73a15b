use Rattle.std.proofs.Common.{◌≡◌, ◌+◌, ◌≤◌, length}
use Rattle.sheet_meaning.specs.Arguments.{bad_from}
use Rattle.sheet_state_arguments.proofs.fitting.bad_argument.Given as goal

abbrev pub decreases-loop-parameter : goal.decreases-loop-parameter
decreases-loop-parameter l = length l.wanted

-- the first of the rest that doesn't fit is the first of all
abbrev pub invariant-loop-parameter : goal.invariant-loop-parameter
invariant-loop-parameter l =
    (bad_from l.state.present.state l.number l.wanted l.given ≡ bad_from l.state.present.state 1 l.parameters l.arguments)
    × (l.number + length l.wanted ≤ 17)
