-- The tree of columns, as the list of its nodes: a column's number is its place in the list.
use Rattle.std.specs.Prelude.{◌≡◌, ℕ, ◌+◌, ◌<◌, ◌≤◌, ◌==◌, ◌&&◌, zero, suc, Bool, false, List, [], ◌∷◌, ◌++◌, length, codes, slice_get, position, bytes_eq, Option, Some, None, option_map, option_and_then, unwrap_or}
use Rattle.std.specs.List.{join_with_byte}
use Rattle.sheet_values.specs.declared.value.Kind.{Kind}
use Rattle.sheet_values.specs.declared.value.Kind.TheVariants as kind
use Rattle.sheet_values.specs.declared.value.Value.{Value}
use Rattle.sheet_values.specs.declared.value.Value.TheVariants as value
use Rattle.sheet_columns.specs.declared.tree.Column.{Column}
use Rattle.sheet_columns.specs.declared.tree.Column.TheVariants.{Object, State, Formula}
use Rattle.sheet_columns.specs.declared.tree.Node.{Node}

-- the root: an object column with nothing above it
abbrev pub root : Node
root = record { above = None; name = codes "$"; column = Object }

-- what the column with this number holds, its name, and the number of the column above it
abbrev pub column_of : List Node → ℕ → Option Column
column_of nodes c = option_map (λ (n : Node). n.column) (slice_get nodes c)

abbrev pub name_of : List Node → ℕ → Option (List ℕ)
name_of nodes c = option_map (λ (n : Node). n.name) (slice_get nodes c)

abbrev pub above_of : List Node → ℕ → Option ℕ
above_of nodes c = option_and_then (λ (n : Node). n.above) (slice_get nodes c)

-- whether it is this number
abbrev pub is_number : ℕ → Option ℕ → Bool
is_number k None = false
is_number k (Some j) = k == j

-- whether the column stands directly under this one and has this name
abbrev pub is_child_named : ℕ → List ℕ → Node → Bool
is_child_named above name node = is_number above node.above && bytes_eq name node.name

-- the number of the column directly under this one that has this name
abbrev pub child_named : List Node → ℕ → List ℕ → Option ℕ
child_named nodes above name = position (is_child_named above name) nodes

-- a value worked out on the way from the root down to a column: `start` at the root, then `next` at each column on the way.
-- A column has a greater number than the one above it, so as many steps up as its number lead to the root
abbrev pub going_down : {A : Type 0} → A → (A → Node → A) → ℕ → List Node → ℕ → A
going_down start next zero nodes c = start
going_down start next (suc steps) nodes c =
    unwrap_or (option_and_then (λ (n : Node). option_map (λ above. next (going_down start next steps nodes above) n) n.above) (slice_get nodes c)) start

-- how many columns below the root it stands
abbrev pub depth : List Node → ℕ → ℕ
depth nodes c = going_down 0 (λ d n. d + 1) c nodes c

-- the names on the way from below the root
abbrev pub names_down_to : List Node → ℕ → List (List ℕ)
names_down_to nodes c = going_down [] (λ names n. names ++ n.name ∷ []) c nodes c

-- the names from below the root, joined by dots; the root's path is `$`
abbrev pub path : List Node → ℕ → List ℕ
path nodes zero = codes "$"
path nodes (suc c) = join_with_byte 46 (names_down_to nodes (suc c))

-- a first value has the type of its column and is no object
abbrev pub IsOfKind : Kind → Value → Type 0
IsOfKind kind.Truth (value.Truth b) = Unit {0}
IsOfKind kind.Number (value.Number n) = Unit {0}
IsOfKind kind.Text (value.Text t) = Unit {0}
IsOfKind k v = ⊥

abbrev pub HasFittingFirst : Column → Type 0
HasFittingFirst Object = Unit {0}
HasFittingFirst (State k one None) = Unit {0}
HasFittingFirst (State k one (Some v)) = IsOfKind k v
HasFittingFirst (Formula k) = Unit {0}

-- only the root has nothing above it; the others stand under an earlier object column
abbrev pub IsUnder : List Node → ℕ → Option ℕ → Type 0
IsUnder nodes c None = c ≡ 0
IsUnder nodes c (Some above) = (above < c) × (column_of nodes above ≡ Some Object)

-- the root comes first; there are at most 1,000 columns, at most eight below the root; names have at most 63 bytes, and those of the
-- columns directly under one column differ
pub record IsTree (nodes : List Node) : Type 0 where
  pub first : slice_get nodes 0 ≡ Some root
  pub few : length nodes ≤ 1000
  pub placed : (c : ℕ) (n : Node) → slice_get nodes c ≡ Some n → IsUnder nodes c n.above
  pub shallow : (c : ℕ) → c < length nodes → depth nodes c ≤ 8
  pub short : (c : ℕ) (n : Node) → slice_get nodes c ≡ Some n → length n.name ≤ 63
  pub fitting : (c : ℕ) (n : Node) → slice_get nodes c ≡ Some n → HasFittingFirst n.column
  pub distinct : (b c : ℕ) (m n : Node) → slice_get nodes b ≡ Some m → slice_get nodes c ≡ Some n → m.above ≡ n.above → m.name ≡ n.name → b ≡ c
