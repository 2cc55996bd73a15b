-- The schema in which a book's meanings are worked out, and the workbook at the start.
use Rattle.std.specs.Prelude.{ℕ, List, Option, Some, None}
use Rattle.std.specs.List.{filter_map, enumerate_from}
use Rattle.sheet_columns.specs.declared.formula.Core.{Core}
use Rattle.sheet_columns.specs.Tree.{IsTree}
use Rattle.sheet_meaning.specs.Start.{start_state}
use Rattle.sheet_meaning.specs.Statements.{workbook}
use Rattle.sheet_meaning.specs.WellFormed.{HasFormulas, IsWellFormed, IsFilled}
use Rattle.sheet_meaning.specs.declared.workbook.ColumnFormula.{ColumnFormula}
use Rattle.sheet_meaning.specs.declared.workbook.Schema.{Schema}
use Rattle.sheet_meaning.specs.declared.workbook.Workbook.{Workbook}
use Rattle.sheet_books.specs.declared.book.Contents.{Contents}
use Rattle.sheet_books.specs.Books.{IsWellTyped}

-- the formula of the column with this number, where it has one
abbrev pub numbered_formula : ℕ → Option Core → Option ColumnFormula
numbered_formula c None = None
numbered_formula c (Some core) = Some (record { column = c; core = core })

-- the columns of a book, and the formulas of its formula columns in order
abbrev pub schema_of : Contents → Schema
schema_of b = record {
  columns = b.columns;
  formulas = filter_map (λ (x : ℕ × Option Core). numbered_formula x.0 x.1) (enumerate_from 0 b.formulas);
}

-- the workbook at the start of a book
abbrev pub start_of : Contents → Workbook
start_of b = workbook (schema_of b) (start_state (schema_of b))

-- the schema of a well-typed book has one formula for each formula column, and its workbook at the start is well formed and filled
pub record StartsWell (b : Contents) : Type 0 where
  pub formulas : HasFormulas (schema_of b)
  pub formed : IsTree b.columns → IsWellFormed (start_of b)
  pub filled : IsFilled (start_of b)

abbrev pub BooksStartWell : Type 0
BooksStartWell = (b : Contents) → IsWellTyped b → StartsWell b
