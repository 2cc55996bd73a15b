use Rattle.std.proofs.Common.{◌≡◌, ◌++◌, take}
use Rattle.plain_formulas.proofs.parts.appended.Given as goal

abbrev pub invariant-loop-one : goal.invariant-loop-one
invariant-loop-one l = l.all ≡ l.fn.uses ++ take l.one-index l.more
