-- Where a statement may run, whichever formula cells are kept.
use Rattle.std.specs.Prelude.{List}
use Rattle.sheet_books.specs.declared.book.Contents.{Contents}
use Rattle.sheet_meaning.specs.Support.{Cell}
use Rattle.sheet_state.specs.Stored.{Stored}
use Rattle.sheet_procs.specs.Typed.{Behind, MayRun}
use Rattle.sheet_procs.specs.declared.progress.Progress.{Progress}

-- well-typed statements from a well-formed workbook; this doesn't rest on kept cells
abbrev pub MayRunKeeping : Behind → Contents → Stored → Progress → Type 0
MayRunKeeping f b k m = (kept : List Cell) → MayRun f b k m
