use Rattle.std.proofs.Common.{◌≡◌, ◌-◌, ◌++◌}
use Rattle.sheet_define_data.specs.Printing.{closings}
use Rattle.sheet_define_print.proofs.column.append_ends.Given as goal

abbrev pub decreases-loop-left : goal.decreases-loop-left
decreases-loop-left l = l.left

abbrev pub invariant-loop-left : goal.invariant-loop-left
invariant-loop-left l = l.out.items ++ closings (l.left - l.depth) l.depth ≡ l.fn.out.items ++ closings (l.fn.from - l.depth) l.depth
