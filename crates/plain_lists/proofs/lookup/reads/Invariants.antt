use Rattle.std.proofs.Common.{◌≡◌, take}
use Rattle.sheet_meaning.specs.Formula.{live_reads}
use Rattle.plain_lists.proofs.lookup.reads.Given as goal

abbrev pub invariant-loop-value : goal.invariant-loop-value
invariant-loop-value l = l.uses ≡ live_reads (take l.value-index l.values)
