use Rattle.std.proofs.Common.{◌<◌, ◌≤◌, length}
use Rattle.sheet_state.specs.Places.{Adds}
use Rattle.sheet_state.proofs.places.add_own.Given as goal

abbrev pub invariant-loop-place : goal.invariant-loop-place
invariant-loop-place l = Adds (λ k. (l.from ≤ k) × (k < l.place)) (length l.rows) l.fn.places.keys l.places.keys
