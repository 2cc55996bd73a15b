use Rattle.std.proofs.Common.{◌≡◌, ◌++◌, take}
use Rattle.std.specs.Prelude.{flat_map}
use Rattle.sheet_print.specs.Lines.{line_text}
use Rattle.sheet_print.specs.Widths.{widths}
use Rattle.sheet_print.proofs.lines.add_lines.Given as goal

abbrev pub invariant-loop-fields : goal.invariant-loop-fields
invariant-loop-fields l = l.out.items ≡ l.fn.out.items ++ flat_map (line_text (widths l.lines)) (take l.fields-index l.lines)
