use Rattle.std.proofs.Common.{◌≡◌, ◌++◌, length}
use Rattle.std.specs.Prelude.{map}
use Rattle.plain_procedures.specs.Columns.{new_cell}
use Rattle.plain_procedures.proofs.changes.push_new_cells.Given as goal

abbrev pub decreases-loop-column : goal.decreases-loop-column
decreases-loop-column l = length l.rest

abbrev pub invariant-loop-column : goal.invariant-loop-column
invariant-loop-column l = l.list ++ map (new_cell l.object) l.rest ≡ l.fn.cells ++ map (new_cell l.object) l.columns
