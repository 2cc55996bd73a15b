use Rattle.std.proofs.Common.{◌≡◌, take}
use Rattle.plain_procedures.proofs.procedure.copied_kept.Given as goal

abbrev pub invariant-loop-cell : goal.invariant-loop-cell
invariant-loop-cell l = l.list.items ≡ take l.cell-index l.cells
