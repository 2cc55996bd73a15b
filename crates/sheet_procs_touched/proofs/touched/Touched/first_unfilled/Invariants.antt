use Rattle.std.proofs.Common.{◌≡◌, length}
use Rattle.std.specs.Prelude.{find}
use Rattle.sheet_meaning.specs.WellFormed.{unfilled}
use Rattle.sheet_state.specs.Stored.{book}
use Rattle.sheet_procs_touched.specs.Touched.{is_open}
use Rattle.sheet_procs_touched.proofs.touched.Touched.first_unfilled.Given as goal

abbrev pub invariant-loop-cell : goal.invariant-loop-cell
invariant-loop-cell l = find (is_open (book l.columns l.state.present.state)) l.cells.keys ≡ unfilled (book l.columns l.state.present.state)

abbrev pub decreases-loop-cell : goal.decreases-loop-cell
decreases-loop-cell l = length l.cells.keys
