use Rattle.std.proofs.Common.{◌≡◌, false, take}
use Rattle.sheet_state_references.specs.Order.{is_held}
use Rattle.sheet_state_references.proofs.references.is_held.Given as goal

abbrev pub invariant-loop-place : goal.invariant-loop-place
invariant-loop-place l = is_held (take l.place l.cells) l.reference ≡ false
