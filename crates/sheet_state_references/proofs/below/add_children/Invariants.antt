use Rattle.std.proofs.Common.{◌≡◌, ℕ, take}
use Rattle.std.specs.Prelude.{◌||◌}
use Rattle.sheet_state_references.specs.Below.{has, stands_under}
use Rattle.sheet_state_references.proofs.below.add_children.Given as goal

abbrev pub invariant-loop-place : goal.invariant-loop-place
invariant-loop-place l = (n : ℕ) → has n l.waiting.keys ≡ (has n l.fn.waiting.keys || stands_under (take l.place l.extents) l.object n)
