-- The formula cells that are reached from what is used, and the support: the items that it rests on.
use Rattle.std.specs.Prelude.{◌≡◌, ◌↔◌, true, ℕ, zero, suc, ◌==◌, ◌&&◌, if◌then◌else◌, List, [], ◌∷◌, ◌++◌, fold, Option, Some, None}
use Rattle.std.specs.List.{flat_map, filter_map}
use Rattle.sheet_values.specs.Sorted.{insert}
pub use Rattle.sheet_columns.specs.Cells.{Cell, is_cell, has_cell, with_cell, with_cells}
use Rattle.sheet_columns.specs.ItemOrder.{item_cmp}
use Rattle.sheet_columns.specs.declared.item.Item.{Item}
use Rattle.sheet_columns.specs.declared.item.Item.TheVariants.{Live}
use Rattle.sheet_columns.specs.declared.fault.Place.{Place}
use Rattle.sheet_columns.specs.declared.formula.Core.{Core}
use Rattle.sheet_meaning.specs.declared.run.Use.{Use}
use Rattle.sheet_meaning.specs.declared.run.Use.TheVariants as used
use Rattle.sheet_meaning.specs.Formula.{Variables}
use Rattle.sheet_meaning.specs.Workbook.{FormulaCell, formula_cells}
use Rattle.sheet_meaning.specs.Rounds.{run_cell, settled_world, settled_run, rounds, item_in, cell_in}
use Rattle.sheet_meaning.specs.declared.workbook.Workbook.{Workbook}

-- the formula cells that are used, in the order of first use
abbrev pub used_cells : List Use → List Cell
used_cells us = with_cells [] (filter_map cell_in us)

-- the formula cell of an object and a column
abbrev pub cell_at : List FormulaCell → Cell → Option FormulaCell
cell_at [] x = None
cell_at (f ∷ fs) x = if f.object == x.0 && f.column == x.1 then Some f else cell_at fs x

-- what a formula cell's own formula uses
abbrev pub uses_of : Workbook → Option FormulaCell → List Use
uses_of w None = []
uses_of w (Some f) = (run_cell (settled_world w) f).uses

abbrev pub uses_at : Workbook → Cell → List Use
uses_at w x = uses_of w (cell_at (formula_cells w) x)

-- the formula cells that a cell's formula reads directly
abbrev pub cells_read : Workbook → Cell → List Cell
cells_read w x = filter_map cell_in (uses_at w x)

-- the items that a cell reads directly: whether its own object is live, and those of its formula
abbrev pub items_read : Workbook → Cell → List Item
items_read w x = Live x.0 ∷ filter_map item_in (uses_at w x)

-- the cells, those that they read directly, and so on, so many times over
abbrev pub spread : Workbook → ℕ → List Cell → List Cell
spread w zero cells = cells
spread w (suc k) cells = let more = spread w k cells in with_cells more (flat_map (cells_read w) more)

-- the cells that are reached from some: no longer way is needed than there are formula cells, and one more step
abbrev pub reached_from : Workbook → List Cell → List Cell
reached_from w cells = spread w (suc (rounds w)) (with_cells [] cells)

-- the cells that are reached from what was used
abbrev pub reached : Workbook → List Use → List Cell
reached w us = reached_from w (filter_map cell_in us)

-- items in order, without doubles
abbrev pub in_order : List Item → List Item
in_order items = fold (λ xs i. insert item_cmp i xs) [] items

-- the support of what was used: the items read directly, by it or by a reached cell
abbrev pub support : Workbook → List Use → List Item
support w us = in_order (filter_map item_in us ++ flat_map (items_read w) (reached w us))

-- the support of an expression
abbrev pub support_of : Workbook → Core → Place → Variables → List Item
support_of w e p v = support w (settled_run w e p v).uses

-- the support of a formula cell
abbrev pub support_of_cell : Workbook → Cell → List Item
support_of_cell w x = support w (used.Cell x.0 x.1 ∷ [])

-- a cell is reached from some: it is one of them, or is read directly by a reached cell
pub data Reaches (w : Workbook) (from : List Cell) : Cell → Type 0 where
  direct : (x : Cell) → has_cell from x ≡ true → Reaches w from x
  through : (x y : Cell) → Reaches w from x → has_cell (cells_read w x) y ≡ true → Reaches w from y

-- the list of reached cells holds the cells that are reached, and no others
abbrev pub ReachedIsAll : Type 0
ReachedIsAll = (w : Workbook) (from : List Cell) (x : Cell) → (has_cell (reached_from w from) x ≡ true) ↔ Reaches w from x
