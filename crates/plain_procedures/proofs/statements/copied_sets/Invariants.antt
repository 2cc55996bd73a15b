use Rattle.std.proofs.Common.{◌≡◌, take}
use Rattle.plain_procedures.proofs.statements.copied_sets.Given as goal

abbrev pub invariant-loop-set : goal.invariant-loop-set
invariant-loop-set l = l.list.items ≡ take l.set-index l.sets
