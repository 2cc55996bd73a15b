use Rattle.std.proofs.Common.{◌≡◌}
use Rattle.std.specs.Prelude.{map}
use Rattle.plain_meaning.specs.Tables.{unworked}
use Rattle.plain_meaning.proofs.rounds.unworked_cells.Given as goal

abbrev pub invariant-loop-run : goal.invariant-loop-run
invariant-loop-run l = l.list.items ≡ map unworked l.yielded
