-- What is seen of an engine.
use Rattle.std.specs.Prelude.{◌≡◌, ℕ, true, List, [], IsSome}
use Rattle.sheet_columns.specs.Tree.{column_of, above_of}
use Rattle.sheet_books.specs.declared.book.Contents.{Contents}
use Rattle.sheet_books.specs.Schemas.{schema_of}
use Rattle.sheet_types_rules.specs.Formulas.{is_formula}
use Rattle.sheet_meaning.specs.Statements.{workbook}
use Rattle.sheet_meaning.specs.Support.{Cell}
use Rattle.sheet_meaning.specs.Workbook.{object_at, column_in}
use Rattle.sheet_meaning.specs.declared.run.Use.{Use}
use Rattle.sheet_meaning.specs.declared.workbook.Workbook.{Workbook}
use Rattle.sheet_state.specs.Stored.{Stored}

-- the book, the state with what undo keeps, and the formula cells whose results are kept
pub record Seen : Type 0 where
  pub book : Contents
  pub state : Stored
  pub kept : List Cell

-- the workbook of a book and a state
abbrev pub workbook_of : Contents → Stored → Workbook
workbook_of b k = workbook (schema_of b) k.present.state

-- the workbook as it is
abbrev pub workbook_in : Seen → Workbook
workbook_in s = workbook_of s.book s.state

-- a formula cell: of a live object, in a formula column directly under the object's column
pub record IsFormulaCell (s : Seen) (o c : ℕ) : Type 0 where
  pub live : IsSome (object_at s.state.present.state.objects o)
  pub under : column_in (object_at s.state.present.state.objects o) ≡ above_of s.book.columns c
  pub formula : is_formula (column_of s.book.columns c) ≡ true

-- which cells are kept after an evaluation with these uses: none, as long as results are kept until the call ends
abbrev pub keeps : Workbook → List Use → List Cell → List Cell
keeps w us kept = []

-- which of them are kept after a change
abbrev pub keeps_after : Workbook → Workbook → List Cell → List Cell
keeps_after w u kept = []
