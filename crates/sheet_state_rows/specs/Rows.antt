-- The rows of a workbook's objects, state cells and extents.
use Rattle.std.specs.Prelude.{ℕ, false, List, [], ◌∷◌, filter, slice_index_or}
use Rattle.sheet_values.specs.Sets.{insert, minus}
use Rattle.sheet_values.specs.declared.value.Value.TheVariants.{Object}
use Rattle.sheet_state_rows.specs.declared.row.Counters.{Counters}
use Rattle.sheet_state_rows.specs.declared.row.ObjectRow.{ObjectRow}
use Rattle.sheet_state_rows.specs.declared.row.SetRow.{SetRow}

-- all rows and counters at one time
pub record Table : Type 0 where
  pub objects : List ObjectRow
  pub cells : List SetRow
  pub extents : List SetRow
  pub counters : Counters

-- a table with other rows or counters
abbrev pub with_objects : Table → List ObjectRow → Table
with_objects t xs = record t { objects = xs }

-- a table with other rows of state cells
abbrev pub with_cells : Table → List SetRow → Table
with_cells t xs = record t { cells = xs }

-- a table with other rows of extents
abbrev pub with_extents : Table → List SetRow → Table
with_extents t xs = record t { extents = xs }

-- a table with other counters
abbrev pub with_counters : Table → Counters → Table
with_counters t n = record t { counters = n }

-- the row of a set at a place
abbrev pub set_row : List SetRow → ℕ → SetRow
set_row rows k = slice_index_or rows k (record { object = 0; column = 0; live = false; set = [] })

-- the row with an object more in its set
abbrev pub joined : ℕ → SetRow → SetRow
joined n r = record r { set = insert (Object n) r.set }

-- the row with an object less in its set
abbrev pub parted : ℕ → SetRow → SetRow
parted n r = record r { set = minus r.set (Object n ∷ []) }

-- the rows of what is there
abbrev pub only_live : Table → Table
only_live t = record t {
  objects = filter (λ (r : ObjectRow). r.live) t.objects;
  cells = filter (λ (r : SetRow). r.live) t.cells;
  extents = filter (λ (r : SetRow). r.live) t.extents;
}

-- a table as it is, and as it was when each change that can still be undone began, the earliest first
pub record Versions : Type 0 where
  pub present : Table
  pub earlier : List Table
