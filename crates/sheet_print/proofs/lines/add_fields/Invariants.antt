use Rattle.std.proofs.Common.{◌≡◌, ◌++◌, length}
use Rattle.sheet_print.specs.Lines.{side_by_side}
use Rattle.sheet_print.proofs.lines.add_fields.Given as goal

abbrev pub invariant-loop-most : goal.invariant-loop-most
invariant-loop-most l = l.out.items ++ side_by_side l.widths l.fields ≡ l.fn.out.items ++ side_by_side l.fn.widths l.fn.fields

abbrev pub decreases-loop-most : goal.decreases-loop-most
decreases-loop-most l = length l.widths
