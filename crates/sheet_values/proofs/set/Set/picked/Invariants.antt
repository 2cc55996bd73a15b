use Rattle.std.proofs.Common.{◌≡◌, ◌+◌, ◌++◌, length}
use Rattle.sheet_values.specs.Sets.{IsRising, picked}
use Rattle.sheet_values.proofs.set.Set.picked.Given as goal

abbrev pub invariant-loop-a : goal.invariant-loop-a
invariant-loop-a l = IsRising l.left × IsRising l.right × (picked l.wanted l.self l.other ≡ l.items.items ++ picked l.wanted l.left l.right)

abbrev pub decreases-loop-a : goal.decreases-loop-a
decreases-loop-a l = length l.left + length l.right
