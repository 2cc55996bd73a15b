use Rattle.std.proofs.Common.{◌≡◌, ◌++◌, take}
use Rattle.std.specs.Prelude.{flat_map}
use Rattle.sheet_csv.specs.Pages.{header_line, part_lines}
use Rattle.sheet_csv.proofs.export.page_text.Given as goal

abbrev pub invariant-loop-part : goal.invariant-loop-part
invariant-loop-part l = l.out.items ≡ header_line ++ flat_map part_lines (take l.part-index l.page)
