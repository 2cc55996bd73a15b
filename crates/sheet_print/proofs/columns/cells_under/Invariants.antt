use Rattle.std.proofs.Common.{◌≡◌}
use Rattle.std.specs.Prelude.{filter}
use Rattle.std.specs.List.{range_with_len}
use Rattle.sheet_print.specs.Books.{is_cell_under}
use Rattle.sheet_print.proofs.columns.cells_under.Given as goal

abbrev pub invariant-loop-column : goal.invariant-loop-column
invariant-loop-column l = l.cells.items ≡ filter (is_cell_under l.columns l.above) (range_with_len 0 l.column)
