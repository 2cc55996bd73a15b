-- A workbook, as lists.
use Rattle.std.specs.Prelude.{ℕ, Bool, ◌&&◌, ◌==◌, List, [], ◌∷◌, map, filter, if◌then◌else◌, Option, Some, None, is_some}
use Rattle.std.specs.List.{flat_map, filter_map}
use Rattle.sheet_values.specs.declared.value.Value.{Value}
use Rattle.sheet_values.specs.declared.value.Value.TheVariants.{Object}
use Rattle.sheet_columns.specs.declared.formula.Core.{Core}
use Rattle.sheet_columns.specs.Tree.{above_of, is_number}
use Rattle.sheet_meaning.specs.Run.{Outcome}
use Rattle.sheet_meaning.specs.Formula.{World}
use Rattle.sheet_meaning.specs.declared.workbook.ColumnFormula.{ColumnFormula}
use Rattle.sheet_meaning.specs.declared.workbook.Schema.{Schema}
use Rattle.sheet_meaning.specs.declared.workbook.LiveObject.{LiveObject}
use Rattle.sheet_meaning.specs.declared.workbook.StoredCell.{StoredCell}
use Rattle.sheet_meaning.specs.declared.workbook.Workbook.{Workbook}

-- the live object with a number
abbrev pub object_at : List LiveObject → ℕ → Option LiveObject
object_at [] o = None
object_at (x ∷ xs) o = if x.number == o then Some x else object_at xs o

-- the column of an object, and nothing where it isn't live
abbrev pub column_in : Option LiveObject → Option ℕ
column_in None = None
column_in (Some x) = Some x.column

-- its parent, and nothing for the root and where it isn't live
abbrev pub parent_in : Option LiveObject → Option ℕ
parent_in None = None
parent_in (Some x) = x.parent

abbrev pub is_child : ℕ → ℕ → LiveObject → Bool
is_child o c x = x.column == c && is_number o x.parent

-- the objects of a column whose parent is an object
abbrev pub children_in : List LiveObject → ℕ → ℕ → List Value
children_in xs o c = map (λ (x : LiveObject). Object x.number) (filter (is_child o c) xs)

-- what a state cell holds, and nothing where there is no such cell
abbrev pub set_in : List StoredCell → ℕ → ℕ → List Value
set_in [] o c = []
set_in (x ∷ xs) o c = if x.object == o && x.column == c then x.set else set_in xs o c

-- a formula cell and its formula
pub record FormulaCell : Type 0 where
  pub object : ℕ
  pub column : ℕ
  pub core : Core

-- the formula cell of an object, of this column, in a formula column, which must stand directly under the object's column
abbrev pub formula_cell : Schema → ℕ → ℕ → ColumnFormula → Option FormulaCell
formula_cell s o c f =
    if is_number c (above_of s.columns f.column) then Some (record { object = o; column = f.column; core = f.core }) else None

-- the formula cells of an object of this column
abbrev pub cells_of : Schema → ℕ → ℕ → List FormulaCell
cells_of s o c = filter_map (formula_cell s o c) s.formulas

-- the formula cells of the live objects
abbrev pub formula_cells : Workbook → List FormulaCell
formula_cells w = flat_map (λ (x : LiveObject). cells_of w.schema x.number x.column) w.state.objects

-- the content that expressions are worked out from, where formula cells have these outcomes
abbrev pub world : Workbook → (ℕ → ℕ → Outcome (List Value)) → World
world w worked = record {
  cell = set_in w.state.cells;
  children = children_in w.state.objects;
  parent = λ o. parent_in (object_at w.state.objects o);
  live = λ o. is_some (column_in (object_at w.state.objects o));
  worked = worked;
}
