use Rattle.std.proofs.Common.{◌≡◌, ◌++◌, take}
use Rattle.plain_lists.proofs.lists.push_copies.Given as goal

abbrev pub invariant-loop-value : goal.invariant-loop-value
invariant-loop-value l = l.list ≡ l.fn.list ++ take l.value-index l.values
