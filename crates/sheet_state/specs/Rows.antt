-- The rows that stand for a state.
use Rattle.std.specs.Prelude.{◌≡◌, ℕ, ◌<◌, ◌==◌, ◌&&◌, List, map, length, Option, Some, None, Bool, if◌then◌else◌}
use Rattle.std.specs.List.{filter_map, AllByRecursion}
use Rattle.std.specs.declared.cmp.Ordering.{Ordering}
use Rattle.std.specs.Ordering.{nat_cmp, on, then_cmp}
use Rattle.sheet_values.specs.Sorted.{IsRising}
use Rattle.sheet_state_rows.specs.Rows.{Table}
use Rattle.sheet_state_rows.specs.declared.row.ObjectRow.{ObjectRow}
use Rattle.sheet_state_rows.specs.declared.row.SetRow.{SetRow}
use Rattle.sheet_meaning.specs.Workbook.{set_in, children_in}
use Rattle.sheet_meaning.specs.WellFormed.{stored_values}
use Rattle.sheet_meaning.specs.declared.workbook.LiveObject.{LiveObject}
use Rattle.sheet_meaning.specs.declared.workbook.StoredCell.{StoredCell}
use Rattle.sheet_meaning.specs.declared.workbook.State.{State}
use Rattle.sheet_state.specs.Stored.{Moment}

-- the object of a row
abbrev pub object_of : ObjectRow → LiveObject
object_of r = record { number = r.number; column = r.column; parent = r.parent }

-- the object of a row, where it is live
abbrev pub live_object : ObjectRow → Option LiveObject
live_object r = if r.live then Some (object_of r) else None

-- the cell of a row, where its object is live
abbrev pub live_cell : SetRow → Option StoredCell
live_cell r = if r.live then Some (record { object = r.object; column = r.column; set = r.set }) else None

-- the live objects of rows
abbrev pub objects_in : List ObjectRow → List LiveObject
objects_in rows = filter_map live_object rows

-- the cells of live objects in rows
abbrev pub cells_in : List SetRow → List StoredCell
cells_in rows = filter_map live_cell rows

-- the state that the rows stand for
abbrev pub state_of : Table → State
state_of t = record { objects = objects_in t.objects; cells = cells_in t.cells; next = t.counters.next }

-- what a table stands for at a time
abbrev pub moment : Table → Moment
moment t = record {
  state = state_of t;
  extents = map (λ (x : StoredCell). (x.object, x.column)) (cells_in t.extents);
  cells = t.counters.cells;
}

-- objects rise by number, and sets by object and column
abbrev pub row_cmp : SetRow → SetRow → Ordering
row_cmp = then_cmp (on (λ (r : SetRow). r.object) nat_cmp) (on (λ (r : SetRow). r.column) nat_cmp)

-- objects are ordered by number
abbrev pub object_cmp : ObjectRow → ObjectRow → Ordering
object_cmp = on (λ (r : ObjectRow). r.number) nat_cmp

-- whether it is the row of this live object
abbrev pub is_object : ℕ → ObjectRow → Bool
is_object o r = r.live && r.number == o

-- whether it is the row of this live object's set in this column
abbrev pub is_set : ℕ → ℕ → SetRow → Bool
is_set o c r = r.live && (r.object == o && r.column == c)

-- rows that may stand for a state
pub record IsSound (t : Table) : Type 0 where
  pub objects : IsRising object_cmp t.objects
  pub cells : IsRising row_cmp t.cells
  pub extents : IsRising row_cmp t.extents
  -- no number was drawn that isn't below the next one
  pub objects_drawn : AllByRecursion (λ (r : ObjectRow). r.number < t.counters.next) t.objects
  pub cells_drawn : AllByRecursion (λ (r : SetRow). r.object < t.counters.next) t.cells
  pub extents_drawn : AllByRecursion (λ (r : SetRow). r.object < t.counters.next) t.extents
  -- each extent holds the objects of its column under its object
  pub children : (o c : ℕ) → set_in (cells_in t.extents) o c ≡ children_in (objects_in t.objects) o c
  pub counted_objects : t.counters.objects ≡ length (objects_in t.objects)
  pub counted_values : t.counters.values ≡ stored_values (cells_in t.cells)
