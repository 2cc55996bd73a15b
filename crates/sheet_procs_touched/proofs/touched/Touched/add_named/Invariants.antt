use Rattle.std.proofs.Common.{take}
use Rattle.sheet_procs_touched.specs.Touched.{Adds, is_named}
use Rattle.sheet_procs_touched.proofs.touched.Touched.add_named.Given as goal

abbrev pub invariant-loop-item : goal.invariant-loop-item
invariant-loop-item l = Adds (is_named (take l.item-index l.item-items)) l.fn.self l.self
