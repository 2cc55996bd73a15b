-- The rows after objects are gone.
use Rattle.std.specs.Prelude.{ℕ, ◌+◌, ◌-◌, ◌&&◌, nat_lt, slice_index_or, Bool, false, if◌then◌else◌, List, [], ◌∷◌, map, length, sum_by, is_some, None}
use Rattle.std.specs.List.{flat_map}
use Rattle.sheet_values.specs.Sets.{contains, minus}
use Rattle.sheet_values.specs.declared.value.Value.{Value}
use Rattle.sheet_values.specs.declared.value.Value.TheVariants.{Truth, Number, Text, Object}
use Rattle.sheet_columns.specs.declared.item.Item.{Item}
use Rattle.sheet_columns.specs.declared.item.Item.TheVariants.{Live, Up, Extent, Stored}
use Rattle.sheet_columns.specs.declared.tree.Node.{Node}
use Rattle.sheet_state_rows.specs.Rows.{Table, with_objects, with_cells, with_extents, with_counters}
use Rattle.sheet_state_rows.specs.declared.row.Counters.{Counters}
use Rattle.sheet_state_rows.specs.declared.row.ObjectRow.{ObjectRow}
use Rattle.sheet_state_rows.specs.declared.row.SetRow.{SetRow}
use Rattle.sheet_meaning.specs.Workbook.{object_at, column_in, parent_in}
use Rattle.sheet_meaning.specs.WellFormed.{state_columns}
use Rattle.sheet_meaning.specs.declared.workbook.LiveObject.{LiveObject}
use Rattle.sheet_state.specs.Births.{with_items, formula_columns}
use Rattle.sheet_state.specs.Stored.{schema_of}
use Rattle.sheet_state.specs.Rows.{objects_in}

-- whether a row is that of a live object among these
abbrev pub is_doomed : List Value → ObjectRow → Bool
is_doomed d r = r.live && contains (Object r.number) d

-- the row of an object when these are gone
abbrev pub buried : List Value → ObjectRow → ObjectRow
buried d r = if is_doomed d r then record r { live = false } else r

-- the row of a set when these are gone
abbrev pub swept : List Value → SetRow → SetRow
swept d r =
    if r.live then (if contains (Object r.object) d then record r { live = false; set = [] } else record r { set = minus r.set d })
    else r

-- the row at a place
abbrev pub object_row : List ObjectRow → ℕ → ObjectRow
object_row rows k = slice_index_or rows k (record { number = 0; column = 0; parent = None; live = false })

-- the row of a set at a place
abbrev pub set_row : List SetRow → ℕ → SetRow
set_row rows k = slice_index_or rows k (record { object = 0; column = 0; live = false; set = [] })

-- how many values go from a row
abbrev pub lost : List Value → SetRow → ℕ
lost d r = length r.set - length (swept d r).set

-- the item of an object, for a value that is a live one
abbrev pub live_items : List LiveObject → Value → List Item
live_items xs (Truth b) = []
live_items xs (Number n) = []
live_items xs (Text t) = []
live_items xs (Object o) = if is_some (column_in (object_at xs o)) then Live o ∷ [] else []

-- the item of the object above, for a value that is a live object under another
abbrev pub up_items : List LiveObject → Value → List Item
up_items xs (Truth b) = []
up_items xs (Number n) = []
up_items xs (Text t) = []
up_items xs (Object o) = if is_some (parent_in (object_at xs o)) then Up o ∷ [] else []

-- the item of a set that changes
abbrev pub swept_items : (ℕ → ℕ → Item) → List Value → SetRow → List Item
swept_items item d r = if nat_lt 0 (lost d r) then item r.object r.column ∷ [] else []

-- how many cells go with a row
abbrev pub lost_cells : List Node → List Value → ObjectRow → ℕ
lost_cells nodes d r = if is_doomed d r then length (state_columns (schema_of nodes) r.column) + length (formula_columns nodes r.column) else 0

-- how many objects go with a row
abbrev pub lost_objects : List Value → ObjectRow → ℕ
lost_objects d r = if is_doomed d r then 1 else 0

-- the counters when these are gone
abbrev pub counted_without : List Node → List Value → Table → Counters
counted_without nodes d t = record {
  next = t.counters.next;
  objects = t.counters.objects - sum_by (lost_objects d) t.objects;
  cells = t.counters.cells - sum_by (lost_cells nodes d) t.objects;
  values = t.counters.values - sum_by (lost d) t.cells;
}

-- the table when these are gone
abbrev pub rid_of : List Node → List Value → Table → Table
rid_of nodes d t = with_counters (with_extents (with_cells (with_objects t (map (buried d) t.objects)) (map (swept d) t.cells)) (map (swept d) t.extents)) (counted_without nodes d t)

-- the items that this changes
abbrev pub rid_items : List Value → Table → List Item
rid_items d t =
    with_items
    (with_items
    (with_items (with_items [] (flat_map (live_items (objects_in t.objects)) d)) (flat_map (up_items (objects_in t.objects)) d))
    (flat_map (swept_items Extent d) t.extents))
    (flat_map (swept_items Stored d) t.cells)
