-- The text of a workbook: for each object column a line with its count of objects, and a table of them.
use Rattle.std.specs.Prelude.{ℕ, ◌==◌, ◌&&◌, Bool, true, false, List, [], ◌∷◌, ◌++◌, length, map, filter, codes, flat_map, Option, Some, None, option_map, unwrap_or, if◌then◌else◌, Ok}
use Rattle.std.specs.Fmt.{decimal}
use Rattle.std.specs.List.{range_with_len}
use Rattle.sheet_columns.specs.Tree.{column_of, name_of, above_of, is_number, path}
use Rattle.sheet_columns.specs.declared.tree.Column.{Column}
use Rattle.sheet_columns.specs.declared.tree.Column.TheVariants as column
use Rattle.sheet_columns.specs.declared.tree.Node.{Node}
use Rattle.sheet_meaning.specs.Rounds.{meaning}
use Rattle.sheet_meaning.specs.Workbook.{object_at, parent_in, set_in}
use Rattle.sheet_meaning.specs.declared.workbook.LiveObject.{LiveObject}
use Rattle.sheet_meaning.specs.declared.workbook.Workbook.{Workbook}
use Rattle.sheet_print.specs.Cells.{cell_text}
use Rattle.sheet_print.specs.Widths.{Fields}
use Rattle.sheet_print.specs.Lines.{lines_text}

-- the numbers of all columns
abbrev pub column_numbers : List Node → List ℕ
column_numbers nodes = range_with_len 0 (length nodes)

-- whether a column has cells: state and formula columns have
abbrev pub has_cells : Column → Bool
has_cells column.Object = false
has_cells (column.State kind one first) = true
has_cells (column.Formula kind) = true

-- whether a column has cells and stands directly under this one
abbrev pub is_cell_under : List Node → ℕ → ℕ → Bool
is_cell_under nodes k c = is_number k (above_of nodes c) && unwrap_or (option_map has_cells (column_of nodes c)) false

-- the state and formula columns directly under a column, by number
abbrev pub cells_under : List Node → ℕ → List ℕ
cells_under nodes k = filter (is_cell_under nodes k) (column_numbers nodes)

-- the numbers of a column's objects
abbrev pub objects_of : List LiveObject → ℕ → List ℕ
objects_of objects k = map (λ (x : LiveObject). x.number) (filter (λ (x : LiveObject). x.column == k) objects)

-- the text of an object's cell in a column that holds this; object columns have no cells
abbrev pub text_in : Workbook → ℕ → ℕ → Option Column → List ℕ
text_in w o c None = []
text_in w o c (Some column.Object) = []
text_in w o c (Some (column.State kind one first)) = cell_text (Ok (set_in w.state.cells o c))
text_in w o c (Some (column.Formula kind)) = cell_text (meaning w o c)

-- the text of an object's cell in a column
abbrev pub text_at : Workbook → ℕ → ℕ → List ℕ
text_at w o c = text_in w o c (column_of w.schema.columns c)

-- the number of a parent, and `-` where there is none
abbrev pub parent_text : Option ℕ → List ℕ
parent_text None = codes "-"
parent_text (Some p) = decimal p

-- the name of a column
abbrev pub name_at : List Node → ℕ → List ℕ
name_at nodes c = unwrap_or (name_of nodes c) []

-- the fields of the header over these cells
abbrev pub header_fields : List Node → List ℕ → Fields
header_fields nodes cells = codes "#" ∷ codes "up" ∷ map (name_at nodes) cells

-- the fields of an object: its number, its parent's, and these cells
abbrev pub object_fields : Workbook → List ℕ → ℕ → Fields
object_fields w cells o = decimal o ∷ parent_text (parent_in (object_at w.state.objects o)) ∷ map (text_at w o) cells

-- the line of a column, with its count of objects
abbrev pub title : List Node → ℕ → ℕ → List ℕ
title nodes k count = codes "== " ++ path nodes k ++ codes " (" ++ decimal count ++ codes ")\n"

-- the header and the lines of these objects; nothing where there is none
abbrev pub table_below : Workbook → List ℕ → List ℕ → List ℕ
table_below w cells objects =
    if length objects == 0 then [] else lines_text (header_fields w.schema.columns cells ∷ map (object_fields w cells) objects)

-- the table of an object column with these objects
abbrev pub table_text : Workbook → ℕ → List ℕ → List ℕ
table_text w k objects = title w.schema.columns k (length objects) ++ table_below w (cells_under w.schema.columns k) objects

-- the table of a column that holds this: object columns alone have one
abbrev pub table_in : Workbook → ℕ → Option Column → List ℕ
table_in w k None = []
table_in w k (Some column.Object) = table_text w k (objects_of w.state.objects k)
table_in w k (Some (column.State kind one first)) = []
table_in w k (Some (column.Formula kind)) = []

-- the table of a column
abbrev pub table_of : Workbook → ℕ → List ℕ
table_of w k = table_in w k (column_of w.schema.columns k)

-- the text of a workbook
abbrev pub book_text : Workbook → List ℕ
book_text w = flat_map (table_of w) (column_numbers w.schema.columns)
