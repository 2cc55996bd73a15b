use Rattle.std.proofs.Common.{◌≡◌, ◌≤◌}
use Rattle.std.specs.Prelude.{flat_map}
use Rattle.std.specs.List.{range_with_len}
use Rattle.sheet_outside.specs.Told.{Gains}
use Rattle.sheet_engine.specs.Seen.{workbook_in}
use Rattle.sheet_print.specs.Books.{table_of}
use Rattle.sheet_print.proofs.books.print_tables.Given as goal

abbrev pub invariant-loop-column : goal.invariant-loop-column
invariant-loop-column g l = record {
  gained : Gains (g.K.Sink.written l.fn.sink) (g.K.Sink.written l.sink) (flat_map (table_of (workbook_in l.fn.engine)) (range_with_len 0 l.column));
  later : g.K.Sink.faults l.fn.sink ≤ g.K.Sink.faults l.sink;
  book : l.engine.book ≡ l.fn.engine.book;
  state : l.engine.state ≡ l.fn.engine.state;
}
