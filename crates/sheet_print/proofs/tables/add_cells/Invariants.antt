use Rattle.std.proofs.Common.{◌≡◌, ◌++◌, take}
use Rattle.std.specs.Prelude.{map}
use Rattle.sheet_engine.specs.Seen.{workbook_in}
use Rattle.sheet_print.specs.Books.{text_at}
use Rattle.sheet_print.proofs.tables.add_cells.Given as goal

abbrev pub invariant-loop-column : goal.invariant-loop-column
invariant-loop-column g l = record {
  made : l.fields ≡ l.fn.fields ++ map (text_at (workbook_in l.fn.engine) l.object) (take l.column-index l.cells);
  book : l.engine.book ≡ l.fn.engine.book;
  state : l.engine.state ≡ l.fn.engine.state;
}
