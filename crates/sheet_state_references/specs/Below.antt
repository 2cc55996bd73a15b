-- What stands below an object.
use Rattle.std.specs.Prelude.{◌≡◌, ℕ, ◌<◌, ◌≤◌, ◌==◌, ◌&&◌, Bool, true, List, length}
use Rattle.std.specs.List.{list_any}
use Rattle.std.specs.Ordering.{is_eq, nat_cmp}
use Rattle.sheet_values.specs.Sets.{contains}
use Rattle.sheet_values.specs.declared.value.Value.{Value}
use Rattle.sheet_values.specs.declared.value.Value.TheVariants.{Object}
use Rattle.sheet_state_rows.specs.Rows.{set_row}
use Rattle.sheet_state_rows.specs.declared.row.SetRow.{SetRow}

-- rows stand in the order of their objects
abbrev pub NeverFalls : List SetRow → Type 0
NeverFalls rows = (i j : ℕ) → i ≤ j → j < length rows → (set_row rows i).object ≤ (set_row rows j).object

-- whether a row of an object that is there holds another object
abbrev pub holds_under : ℕ → ℕ → SetRow → Bool
holds_under p n r = r.live && (r.object == p && contains (Object n) r.set)

-- whether an object stands directly under another, by the rows of the extents
abbrev pub stands_under : List SetRow → ℕ → ℕ → Bool
stands_under rows p n = list_any (holds_under p n) rows

-- what stands under an object has a greater number
abbrev pub Descends : List SetRow → Type 0
Descends rows = (p n : ℕ) → stands_under rows p n ≡ true → p < n

-- whether a number is one of these
abbrev pub has : ℕ → List ℕ → Bool
has n ns = list_any (λ m. is_eq (nat_cmp n m)) ns

-- the property goes down from an object to what stands under it
abbrev pub GoesDown : List SetRow → (ℕ → Bool) → Type 0
GoesDown rows q = (p n : ℕ) → q p ≡ true → stands_under rows p n ≡ true → q n ≡ true

-- the value is an object with the property
abbrev pub IsObjectWith : (ℕ → Bool) → Value → Type 0
IsObjectWith q v = (n : ℕ) × (v ≡ Object n) × (q n ≡ true)

-- the least set that holds all objects with a property and goes down
pub record AreFamilies (rows : List SetRow) (p : ℕ → Bool) (families : List Value) : Type 0 where
  pub first : (n : ℕ) → p n ≡ true → contains (Object n) families ≡ true
  pub down : GoesDown rows (λ n. contains (Object n) families)
  pub least : (q : ℕ → Bool) → ((n : ℕ) → p n ≡ true → q n ≡ true) → GoesDown rows q → (v : Value) → contains v families ≡ true → IsObjectWith q v
