use Rattle.std.proofs.Common.{◌≡◌, take}
use Rattle.sheet_print.specs.Books.{header_fields}
use Rattle.sheet_print.proofs.columns.header_fields.Given as goal

abbrev pub invariant-loop-cell : goal.invariant-loop-cell
invariant-loop-cell l = l.fields ≡ header_fields l.columns (take l.cell-index l.cells)
