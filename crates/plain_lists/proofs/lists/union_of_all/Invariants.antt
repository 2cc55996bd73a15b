use Rattle.std.proofs.Common.{◌≡◌, [], take}
use Rattle.std.specs.Prelude.{fold}
use Rattle.sheet_values.specs.Sets.{union}
use Rattle.plain_lists.proofs.lists.union_of_all.Given as goal

abbrev pub invariant-loop-set : goal.invariant-loop-set
invariant-loop-set l = l.list ≡ fold union [] (take l.set-index l.sets)
