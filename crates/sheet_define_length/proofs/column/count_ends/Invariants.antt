use Rattle.std.proofs.Common.{ℕ, ◌-◌, ◌^◌, ◌<◌}
use Rattle.sheet_define_data.specs.Printing.{closings}
use Rattle.sheet_define_length.specs.Counting.{Counts}
use Rattle.sheet_define_length.proofs.column.count_ends.Given as goal

abbrev pub decreases-loop-left : goal.decreases-loop-left
decreases-loop-left l = l.left

-- what closes the braces that are left makes it whole
abbrev pub invariant-loop-left : goal.invariant-loop-left
invariant-loop-left l =
    (l.sum < 2 ^ 64) × ((e : ℕ) → Counts l.sum e (closings (l.left - l.depth) l.depth) → Counts l.total e (closings (l.fn.from - l.depth) l.depth))
