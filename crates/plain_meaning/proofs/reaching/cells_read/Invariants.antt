use Rattle.std.proofs.Common.{◌≡◌, ◌++◌, length}
use Rattle.std.specs.List.{flat_map}
use Rattle.plain_meaning.specs.Reached.{cells_in}
use Rattle.plain_meaning.proofs.reaching.cells_read.Given as goal

abbrev pub decreases-loop-cell : goal.decreases-loop-cell
decreases-loop-cell l = length l.rest

abbrev pub invariant-loop-cell : goal.invariant-loop-cell
invariant-loop-cell l = l.list.items ++ flat_map (cells_in l.runs) l.rest ≡ flat_map (cells_in l.runs) l.cells
