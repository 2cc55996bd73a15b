use Rattle.std.proofs.Common.{◌≡◌, ◌++◌, length}
use Rattle.plain_procedures.proofs.changes.copied_cells.Given as goal

abbrev pub decreases-loop-cell : goal.decreases-loop-cell
decreases-loop-cell l = length l.rest

abbrev pub invariant-loop-cell : goal.invariant-loop-cell
invariant-loop-cell l = l.list ++ l.rest ≡ l.cells
