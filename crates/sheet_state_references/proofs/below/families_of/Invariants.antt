use Rattle.sheet_state_references.specs.Below.{has}
use Rattle.sheet_state_references.proofs.Searched.{Searched, remaining}
use Rattle.sheet_state_references.proofs.below.families_of.Given as goal

abbrev pub invariant-loop-number : goal.invariant-loop-number
invariant-loop-number l = Searched l.extents (λ n. has n l.fn.starts.keys) l.waiting.keys l.families

abbrev pub decreases-loop-number : goal.decreases-loop-number
decreases-loop-number l = remaining l.waiting.keys
