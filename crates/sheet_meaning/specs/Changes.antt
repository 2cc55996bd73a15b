-- The changes that statements make.
use Rattle.std.specs.Prelude.{ℕ, ◌+◌, ◌==◌, ◌&&◌, ◌||◌, not, Bool, true, false, if◌then◌else◌, List, [], ◌∷◌, ◌++◌, map, filter, fold, Option, Some, None}
use Rattle.std.specs.List.{list_any}
use Rattle.sheet_values.specs.declared.value.Value.{Value}
use Rattle.sheet_values.specs.declared.value.Value.TheVariants.{Truth, Number, Text, Object}
use Rattle.sheet_values.specs.Sets.{union, minus}
use Rattle.sheet_columns.specs.declared.statement.Change.{Change}
use Rattle.sheet_columns.specs.declared.statement.Change.TheVariants.{Set, Add, Remove}
use Rattle.sheet_meaning.specs.WellFormed.{StateColumn, state_columns}
use Rattle.sheet_meaning.specs.declared.workbook.Schema.{Schema}
use Rattle.sheet_meaning.specs.declared.workbook.LiveObject.{LiveObject}
use Rattle.sheet_meaning.specs.declared.workbook.StoredCell.{StoredCell}
use Rattle.sheet_meaning.specs.declared.workbook.State.{State}

-- what a state cell holds after `set`, `add` or `remove`
abbrev pub changed_set : Change → List Value → List Value → List Value
changed_set Set old set = set
changed_set Add old set = union old set
changed_set Remove old set = minus old set

-- a state cell holds a set
abbrev pub with_set : State → ℕ → ℕ → List Value → State
with_set s o c set = record s {
  cells = map (λ (x : StoredCell). if x.object == o && x.column == c then record x { set = set } else x) s.cells;
}

abbrev pub first_set : Option Value → List Value
first_set None = []
first_set (Some v) = v ∷ []

-- a new object of a column, under an object, with the next number; its state cells hold their columns' first values
abbrev pub with_object : Schema → State → ℕ → ℕ → State
with_object schema s c parent = record {
  objects = s.objects ++ record { number = s.next; column = c; parent = Some parent } ∷ [];
  cells = s.cells ++ map (λ (k : StateColumn). record { object = s.next; column = k.number; set = first_set k.first }) (state_columns schema c);
  next = s.next + 1;
}

-- whether a number is among some
abbrev pub has_number : List ℕ → ℕ → Bool
has_number ns n = list_any (λ m. m == n) ns

abbrev pub has_parent_in : List ℕ → Option ℕ → Bool
has_parent_in ns None = false
has_parent_in ns (Some p) = has_number ns p

-- an object and all below it, among objects that stand before their children
abbrev pub family : List LiveObject → ℕ → List ℕ
family objects o = fold (λ ns (x : LiveObject). if x.number == o || has_parent_in ns x.parent then ns ++ x.number ∷ [] else ns) [] objects

-- whether a value is none of these objects
abbrev pub is_other : List ℕ → Value → Bool
is_other ns (Truth b) = true
is_other ns (Number n) = true
is_other ns (Text t) = true
is_other ns (Object o) = not (has_number ns o)

-- objects are gone, with their cells and every reference to them
abbrev pub without : State → List ℕ → State
without s ns = record s {
  objects = filter (λ (x : LiveObject). not (has_number ns x.number)) s.objects;
  cells =
      map (λ (x : StoredCell). record x { set = filter (is_other ns) x.set })
      (filter (λ (x : StoredCell). not (has_number ns x.object)) s.cells);
}

-- an object and all below it are gone
abbrev pub without_object : State → ℕ → State
without_object s o = without s (family s.objects o)
