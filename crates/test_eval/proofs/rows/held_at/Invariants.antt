use Rattle.std.proofs.Common.{◌≡◌, length}
use Rattle.test_eval.specs.Rows.{found}
use Rattle.test_eval.proofs.rows.held_at.Given as goal

abbrev pub decreases-loop-row : goal.decreases-loop-row
decreases-loop-row g l = length l.rest

abbrev pub invariant-loop-row : goal.invariant-loop-row
invariant-loop-row g l = found l.rest l.object l.column ≡ found l.rows l.object l.column
