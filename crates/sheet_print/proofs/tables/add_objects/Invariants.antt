use Rattle.std.proofs.Common.{◌≡◌, ◌++◌, take}
use Rattle.std.specs.Prelude.{map}
use Rattle.sheet_engine.specs.Seen.{workbook_in}
use Rattle.sheet_print.specs.Books.{object_fields}
use Rattle.sheet_print.proofs.tables.add_objects.Given as goal

abbrev pub invariant-loop-object : goal.invariant-loop-object
invariant-loop-object g l = record {
  made : l.lines ≡ l.fn.lines ++ map (object_fields (workbook_in l.fn.engine) l.cells) (take l.object-index l.objects);
  book : l.engine.book ≡ l.fn.engine.book;
  state : l.engine.state ≡ l.fn.engine.state;
}
