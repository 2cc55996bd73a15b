use Rattle.std.proofs.Common.{◌≡◌}
use Rattle.plain_meaning.specs.Reached.{cells_in, spread_by}
use Rattle.plain_meaning.proofs.reaching.spread.Given as goal

abbrev pub invariant-loop-round : goal.invariant-loop-round
invariant-loop-round l = l.list.items ≡ spread_by (cells_in l.runs) l.round l.fn.cells.items
