-- The items and the formula cells that were used.
use Rattle.std.specs.Prelude.{◌≡◌, Bool, false, if◌then◌else◌, List, [], ◌∷◌, fold, Option, Some, None}
use Rattle.sheet_values.specs.Sorted.{insert}
use Rattle.sheet_columns.specs.Cells.{Cell, has_cell, with_cell}
use Rattle.sheet_columns.specs.ItemOrder.{item_cmp}
use Rattle.sheet_columns.specs.declared.item.Item.{Item}

-- whether items are noted, those that are, in order, and the cells in the order of first use
pub record Noted : Type 0 where
  pub heeds_items : Bool
  pub items : List Item
  pub cells : List Cell

-- one item more, where items are noted
abbrev pub note_item : Noted → Item → Noted
note_item n i = record { heeds_items = n.heeds_items; items = if n.heeds_items then insert item_cmp i n.items else n.items; cells = n.cells }

-- one cell more
abbrev pub note_cell : Noted → Cell → Noted
note_cell n x = record { heeds_items = n.heeds_items; items = n.items; cells = with_cell n.cells x }

-- the first cell and those behind it
abbrev pub cells_of : Option Cell → List Cell → List Cell
cells_of None others = others
cells_of (Some first) others = first ∷ others

-- the first of some cells
abbrev pub first_of : List Cell → Option Cell
first_of [] = None
first_of (x ∷ xs) = Some x

-- those behind the first
abbrev pub others_of : List Cell → List Cell
others_of [] = []
others_of (x ∷ xs) = xs

-- where there is no first cell there is none, and the first one isn't among the others
abbrev pub AreOthers : Option Cell → List Cell → Type 0
AreOthers None others = others ≡ []
AreOthers (Some first) others = has_cell others first ≡ false

-- items with more items, in order
abbrev pub with_items : List Item → List Item → List Item
with_items items more = fold (λ xs i. insert item_cmp i xs) items more
