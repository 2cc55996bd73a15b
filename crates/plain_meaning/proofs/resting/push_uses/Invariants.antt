use Rattle.std.proofs.Common.{◌≡◌, ◌++◌, take}
use Rattle.plain_meaning.proofs.resting.push_uses.Given as goal

abbrev pub invariant-loop-one : goal.invariant-loop-one
invariant-loop-one l = l.uses ≡ l.fn.uses ++ take l.one-index l.more
