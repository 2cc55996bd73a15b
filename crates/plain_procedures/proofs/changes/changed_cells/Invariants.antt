use Rattle.std.proofs.Common.{◌≡◌, ◌++◌, length}
use Rattle.std.specs.Prelude.{map}
use Rattle.plain_procedures.specs.Columns.{cell_with}
use Rattle.plain_procedures.proofs.changes.changed_cells.Given as goal

abbrev pub decreases-loop-cell : goal.decreases-loop-cell
decreases-loop-cell l = length l.rest

abbrev pub invariant-loop-cell : goal.invariant-loop-cell
invariant-loop-cell l = l.list ++ map (cell_with l.object l.column l.set) l.rest ≡ map (cell_with l.object l.column l.set) l.cells
