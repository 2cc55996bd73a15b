-- The state cells that changes touch, and the test of those that must hold exactly one value.
use Rattle.std.specs.Prelude.{◌≡◌, ℕ, ◌==◌, ◌&&◌, not, Bool, true, false, List, [], length, Option, Some, None}
use Rattle.std.specs.declared.cmp.Ordering.{Ordering}
use Rattle.std.specs.Ordering.{nat_cmp, on, then_cmp}
use Rattle.sheet_values.specs.Sorted.{contains}
use Rattle.sheet_values.specs.declared.value.Value.{Value}
use Rattle.sheet_columns.specs.Cells.{Cell, is_cell, has_cell}
use Rattle.sheet_columns.specs.ItemOrder.{item_cmp}
use Rattle.sheet_columns.specs.Tree.{column_of, above_of, is_number}
use Rattle.sheet_columns.specs.declared.item.Item.{Item}
use Rattle.sheet_columns.specs.declared.item.Item.TheVariants.{Stored}
use Rattle.sheet_columns.specs.declared.tree.Column.{Column}
use Rattle.sheet_columns.specs.declared.tree.Column.TheVariants as column
use Rattle.sheet_columns.specs.declared.tree.Node.{Node}
use Rattle.sheet_meaning.specs.Changes.{with_set, with_object}
use Rattle.sheet_meaning.specs.Statements.{workbook}
use Rattle.sheet_meaning.specs.WellFormed.{one_cells, IsWellFormed, IsFilled}
use Rattle.sheet_meaning.specs.Workbook.{set_in}
use Rattle.sheet_meaning.specs.declared.workbook.Schema.{Schema}
use Rattle.sheet_meaning.specs.declared.workbook.State.{State}
use Rattle.sheet_meaning.specs.declared.workbook.Workbook.{Workbook}
use Rattle.sheet_state.specs.Removals.{without_all}
use Rattle.sheet_state.specs.Stored.{AreChanged}

-- cells stand in order by object, then by column
abbrev pub cell_cmp : Cell → Cell → Ordering
cell_cmp = then_cmp (on (λ (x : Cell). x.0) nat_cmp) (on (λ (x : Cell). x.1) nat_cmp)

-- whether a cell must hold exactly one value, and doesn't
abbrev pub is_open : Workbook → Cell → Bool
is_open w x = has_cell (one_cells w) x && not (length (set_in w.state.cells x.0 x.1) == 1)

-- every such cell is among these
abbrev pub Covers : Workbook → List Cell → Type 0
Covers w cells = (x : Cell) → is_open w x ≡ true → contains cell_cmp x cells ≡ true

-- cells came that were wanted, and none went
pub record Adds (wanted : Cell → Bool) (old new : List Cell) : Type 0 where
  pub found : (x : Cell) → wanted x ≡ true → contains cell_cmp x new ≡ true
  pub kept : (x : Cell) → contains cell_cmp x old ≡ true → contains cell_cmp x new ≡ true

-- whether the cells of a column must hold exactly one value
abbrev pub holds_one : Option Column → Bool
holds_one None = false
holds_one (Some column.Object) = false
holds_one (Some (column.State kind one first)) = one
holds_one (Some (column.Formula kind)) = false

-- whether it is a cell of this object, which is of that column, that must hold exactly one value
abbrev pub is_new : List Node → ℕ → ℕ → Cell → Bool
is_new nodes o c x = (x.0 == o) && (holds_one (column_of nodes x.1) && is_number c (above_of nodes x.1))

-- whether a cell is one of those that items name
abbrev pub is_named : List Item → Cell → Bool
is_named items x = contains item_cmp (Stored x.0 x.1) items

-- in a filled workbook no cell needs to be among them
abbrev pub FilledIsCovered : Type 0
FilledIsCovered = (w : Workbook) → IsFilled w → Covers w []

-- a cell that is set is touched
abbrev pub SettingIsCovered : Type 0
SettingIsCovered =
    (s : Schema) (t : State) (o c : ℕ) (set : List Value) (old new : List Cell)
    → Covers (workbook s t) old
    → Adds (is_cell (o, c)) old new
    → Covers (workbook s (with_set t o c set)) new

-- so are the cells of a new object
abbrev pub MakingIsCovered : Type 0
MakingIsCovered =
    (s : Schema) (t : State) (c parent : ℕ) (old new : List Cell)
    → IsWellFormed (workbook s t)
    → Covers (workbook s t) old
    → Adds (is_new s.columns t.next c) old new
    → Covers (workbook s (with_object s t c parent)) new

-- and those that change where objects go
abbrev pub DeletingIsCovered : Type 0
DeletingIsCovered =
    (s : Schema) (t : State) (set : List Value) (items : List Item) (old new : List Cell)
    → IsWellFormed (workbook s t)
    → AreChanged t (without_all t set) items
    → Covers (workbook s t) old
    → Adds (is_named items) old new
    → Covers (workbook s (without_all t set)) new
