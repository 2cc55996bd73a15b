-- The rows of a new object's cells and extents.
use Rattle.std.specs.Prelude.{ℕ, List, [], ◌∷◌, ◌++◌, map, fold, Option, Some, None, option_and_then, slice_set, slice_index_or, true, false, if◌then◌else◌}
use Rattle.std.specs.List.{filter_map, enumerate_from}
use Rattle.sheet_values.specs.declared.value.Value.{Value}
use Rattle.sheet_values.specs.declared.value.Value.TheVariants.{Object}
use Rattle.sheet_values.specs.Order.{value_cmp}
use Rattle.sheet_values.specs.Sorted.{insert}
use Rattle.sheet_columns.specs.ItemOrder.{item_cmp}
use Rattle.sheet_columns.specs.Tree.{column_of, above_of, is_number}
use Rattle.sheet_columns.specs.declared.item.Item.{Item}
use Rattle.sheet_columns.specs.declared.item.Item.TheVariants.{Live, Up, Extent, Stored}
use Rattle.sheet_columns.specs.declared.tree.Column.{Column}
use Rattle.sheet_columns.specs.declared.tree.Column.TheVariants as column
use Rattle.sheet_columns.specs.declared.tree.Node.{Node}
use Rattle.sheet_state_rows.specs.declared.row.SetRow.{SetRow}
use Rattle.sheet_state_rows.specs.declared.row.Counters.{Counters}
use Rattle.sheet_state_rows.specs.declared.row.ObjectRow.{ObjectRow}
use Rattle.sheet_state_rows.specs.Rows.{Table, with_objects, with_cells, with_extents, with_counters}
use Rattle.sheet_meaning.specs.Changes.{first_set}
use Rattle.sheet_meaning.specs.WellFormed.{StateColumn, as_state, state_columns}
use Rattle.sheet_state.specs.Stored.{schema_of, as_extent, object_columns}

-- the column with a number, where it stands directly under this one
abbrev pub child_at : List Node → ℕ → ℕ → Option Column
child_at nodes c k = if is_number c (above_of nodes k) then column_of nodes k else None

-- the state column with a number, where it stands directly under this one
abbrev pub state_at : List Node → ℕ → ℕ → Option StateColumn
state_at nodes c k = option_and_then (as_state k) (child_at nodes c k)

-- the object column with a number, where it stands directly under this one
abbrev pub extent_at : List Node → ℕ → ℕ → Option ℕ
extent_at nodes c k = option_and_then (as_extent k) (child_at nodes c k)

-- the number of a column, where it is a formula column
abbrev pub is_formula : ℕ → Column → Option ℕ
is_formula k column.Object = None
is_formula k (column.State kind one first) = None
is_formula k (column.Formula kind) = Some k

-- the formula column with a number, where it stands directly under this one
abbrev pub formula_at : List Node → ℕ → ℕ → Option ℕ
formula_at nodes c k = option_and_then (is_formula k) (child_at nodes c k)

-- the formula columns directly under an object column
abbrev pub formula_columns : List Node → ℕ → List ℕ
formula_columns nodes c = filter_map (λ (x : ℕ × Node). if is_number c x.1.above then is_formula x.0 x.1.column else None) (enumerate_from 0 nodes)

-- the set of the row at a place
abbrev pub set_at : List SetRow → ℕ → List Value
set_at rows k = (slice_index_or rows k (record { object = 0; column = 0; live = false; set = [] })).set

-- the row of a live object's set
abbrev pub live_row : ℕ → ℕ → List Value → SetRow
live_row o c set = record { object = o; column = c; live = true; set = set }

-- the rows of a new object's state cell and extent
abbrev pub new_cell : ℕ → StateColumn → SetRow
new_cell o k = record { object = o; column = k.number; live = true; set = first_set k.first }

-- the row of a new extent, which is empty
abbrev pub new_extent : ℕ → ℕ → SetRow
new_extent o k = record { object = o; column = k; live = true; set = [] }

-- the item of a cell that doesn't start empty
abbrev pub first_item : ℕ → ℕ → Option Value → Option Item
first_item o k None = None
first_item o k (Some v) = Some (Stored o k)

-- the item of a new state cell, where that doesn't start empty
abbrev pub item_of : ℕ → StateColumn → Option Item
item_of o k = first_item o k.number k.first

-- items with others in their places
abbrev pub with_items : List Item → List Item → List Item
with_items items more = fold (λ xs x. insert item_cmp x xs) items more

-- a table with the rows of these state and object columns for an object
abbrev pub with_rows : Table → ℕ → List StateColumn → List ℕ → Table
with_rows t o states extents = with_extents (with_cells t (t.cells ++ map (new_cell o) states)) (t.extents ++ map (new_extent o) extents)

-- how many of these columns have a first value
abbrev pub firsts : List StateColumn → List Value
firsts ks = filter_map (λ (k : StateColumn). k.first) ks

-- the row of a new object
abbrev pub new_object_row : ℕ → ℕ → ℕ → ObjectRow
new_object_row n c parent = record { number = n; column = c; parent = Some parent; live = true }

-- the rows after an object of this column was made under this parent, whose extent's row stands at this place
abbrev pub born : List Node → Table → ℕ → ℕ → ℕ → Counters → Table
born nodes t place c parent counters =
    with_counters
    (with_rows
    (with_objects
    (with_extents t (slice_set t.extents place (live_row parent c (insert value_cmp (Object t.counters.next) (set_at t.extents place)))))
    (t.objects ++ new_object_row t.counters.next c parent ∷ []))
    t.counters.next
    (state_columns (schema_of nodes) c)
    (object_columns nodes c))
    counters

-- the items that this changes
abbrev pub born_items : List Node → ℕ → ℕ → ℕ → List Item
born_items nodes n c parent = with_items (insert item_cmp (Extent parent c) (insert item_cmp (Up n) (insert item_cmp (Live n) []))) (filter_map (item_of n) (state_columns (schema_of nodes) c))
