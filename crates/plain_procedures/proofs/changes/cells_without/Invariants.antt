use Rattle.std.proofs.Common.{◌≡◌, ◌++◌, length}
use Rattle.plain_procedures.specs.Columns.{cells_left}
use Rattle.plain_procedures.proofs.changes.cells_without.Given as goal

abbrev pub decreases-loop-cell : goal.decreases-loop-cell
decreases-loop-cell l = length l.rest

abbrev pub invariant-loop-cell : goal.invariant-loop-cell
invariant-loop-cell l = l.list ++ cells_left l.numbers l.rest ≡ cells_left l.numbers l.cells
