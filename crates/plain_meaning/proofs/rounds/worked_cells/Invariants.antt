use Rattle.std.proofs.Common.{◌≡◌}
use Rattle.std.specs.Prelude.{map}
use Rattle.plain_meaning.specs.Tables.{worked}
use Rattle.plain_meaning.proofs.rounds.worked_cells.Given as goal

abbrev pub invariant-loop-cell : goal.invariant-loop-cell
invariant-loop-cell l = l.list.items ≡ map worked l.yielded
