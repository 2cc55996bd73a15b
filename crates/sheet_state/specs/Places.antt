-- The places of rows that may change.
use Rattle.std.specs.Prelude.{◌≡◌, ℕ, ◌+◌, ◌<◌, ◌^◌, List, length, Some, true, false, position, slice_index_or}
use Rattle.std.specs.List.{AllByRecursion}
use Rattle.sheet_values.specs.Sorted.{contains as holds}
use Rattle.sheet_values.specs.Sets.{contains}
use Rattle.sheet_values.specs.declared.value.Value.{Value}
use Rattle.sheet_values.specs.declared.value.Value.TheVariants.{Object}
use Rattle.sheet_state_rows.specs.Rows.{Table, set_row}
use Rattle.sheet_state_rows.specs.declared.row.ObjectRow.{ObjectRow}
use Rattle.sheet_state_rows.specs.declared.row.SetRow.{SetRow}
use Rattle.sheet_state_references.specs.Below.{has}
use Rattle.sheet_state_references.specs.Order.{reference_cmp}
use Rattle.sheet_state_references.specs.declared.references.Reference.{Reference}
use Rattle.sheet_meaning.specs.Workbook.{object_at}
use Rattle.sheet_meaning.specs.declared.workbook.LiveObject.{LiveObject}
use Rattle.sheet_state.specs.Rows.{is_object, is_set, objects_in}

-- all places are below a length
abbrev pub Fits : ℕ → List ℕ → Type 0
Fits n places = (k : ℕ) → has k places ≡ true → k < n

-- places came that were wanted, none went, and all are still below the length
pub record Adds (wanted : ℕ → Type 0) (n : ℕ) (old new : List ℕ) : Type 0 where
  pub found : (k : ℕ) → wanted k → has k new ≡ true
  pub kept : (k : ℕ) → has k old ≡ true → has k new ≡ true
  pub fits : Fits n old → Fits n new

-- the place is wanted for one of these objects
abbrev pub OfAny : List Value → (ℕ → ℕ → Type 0) → ℕ → Type 0
OfAny d wanted k = (n : ℕ) × (contains (Object n) d ≡ true) × wanted n k

-- the row of an object that is there
abbrev pub IsRowOf : List ObjectRow → ℕ → ℕ → Type 0
IsRowOf rows n k = position (is_object n) rows ≡ Some k

-- a row of an object's own sets
abbrev pub IsOwnRow : List SetRow → ℕ → ℕ → Type 0
IsOwnRow rows n k = (k < length rows) × ((set_row rows k).object ≡ n)

-- the row of a cell that may refer to an object, by these references
abbrev pub RefersTo : List SetRow → List Reference → ℕ → ℕ → Type 0
RefersTo rows references n k = (o c : ℕ) × (holds reference_cmp (record { to = n; object = o; column = c }) references ≡ true) × (position (is_set o c) rows ≡ Some k)

-- all rows that the change changes stand at these places
pub record Covers {A : Type 0} (change : A → A) (rows : List A) (places : List ℕ) : Type 0 where
  pub fits : Fits (length rows) places
  pub others : (k : ℕ) (d : A) → k < length rows → has k places ≡ false → change (slice_index_or rows k d) ≡ slice_index_or rows k d

-- the references that the row of a state cell holds are listed
abbrev pub IsListedRow : List Reference → SetRow → Type 0
IsListedRow references r = r.live ≡ true → (n : ℕ) → contains (Object n) r.set ≡ true → holds reference_cmp (record { to = n; object = r.object; column = r.column }) references ≡ true

-- all references of state cells are listed
abbrev pub IsListed : List Reference → Table → Type 0
IsListed references t = AllByRecursion (IsListedRow references) t.cells

-- the row of the extent that an object stands in
abbrev pub IsHomeOf : List ObjectRow → List SetRow → ℕ → ℕ → Type 0
IsHomeOf objects extents o k = (p : ℕ) × (x : LiveObject) × (object_at (objects_in objects) o ≡ Some x) × (x.parent ≡ Some p) × (position (is_set p x.column) extents ≡ Some k)

-- the number behind each of these objects can be written
abbrev pub AreSmall : List Value → Type 0
AreSmall d = (n : ℕ) → contains (Object n) d ≡ true → n + 1 < 2 ^ 64

-- all of these are objects
abbrev pub AreObjects : List Value → Type 0
AreObjects d = (v : Value) → contains v d ≡ true → (n : ℕ) × (v ≡ Object n)
