use Rattle.std.proofs.Common.{◌≡◌, length}
use Rattle.sheet_meaning.specs.Support.{with_cells}
use Rattle.plain_meaning.proofs.reaching.with_cells.Given as goal

abbrev pub decreases-loop-cell : goal.decreases-loop-cell
decreases-loop-cell l = length l.rest

abbrev pub invariant-loop-cell : goal.invariant-loop-cell
invariant-loop-cell l = with_cells l.list.items l.rest ≡ with_cells l.fn.cells.items l.more
