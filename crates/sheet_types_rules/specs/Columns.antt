-- The types of columns.
use Rattle.std.specs.Prelude.{◌≡◌, ℕ, ◌+◌, Bool, true, false, List, [], ◌∷◌, Option, Some, None}
use Rattle.std.specs.List.{AllByRecursion}
use Rattle.sheet_values.specs.declared.value.Kind.{Kind}
use Rattle.sheet_values.specs.declared.value.Kind.TheVariants as kind
use Rattle.sheet_columns.specs.declared.tree.Column.{Column}
use Rattle.sheet_columns.specs.declared.tree.Column.TheVariants as column
use Rattle.sheet_columns.specs.declared.tree.Node.{Node}
use Rattle.sheet_columns.specs.Tree.{column_of, above_of}

-- the type that a column has by itself: a state column its own, a formula column its declared one, where it has one
abbrev pub kind_of_column : ℕ → Column → Kind
kind_of_column c column.Object = kind.Object c
kind_of_column c (column.State k one first) = k
kind_of_column c (column.Formula k) = k

-- a type that is known
abbrev pub is_known : Kind → Bool
is_known kind.Unknown = false
is_known k = true

-- the types of columns by themselves, numbered from that number on
abbrev pub kinds_from : ℕ → List Node → List Kind
kinds_from c [] = []
kinds_from c (n ∷ nodes) = kind_of_column c n.column ∷ kinds_from (c + 1) nodes

-- the number of the column above; 0 for the root
abbrev pub home_at : Option ℕ → ℕ
home_at None = 0
home_at (Some above) = above

-- the column directly above, which `this` gives an object of in a formula; the root has none, and no formula
abbrev pub home : List Node → ℕ → ℕ
home nodes c = home_at (above_of nodes c)

-- a type of objects is that of an object column
abbrev pub IsKindIn : List Node → Kind → Type 0
IsKindIn nodes kind.Unknown = Unit {0}
IsKindIn nodes kind.Truth = Unit {0}
IsKindIn nodes kind.Number = Unit {0}
IsKindIn nodes kind.Text = Unit {0}
IsKindIn nodes (kind.Object c) = column_of nodes c ≡ Some column.Object

-- what a column holds is of a type in the tree, and the type of a state column is known
abbrev pub IsHeldIn : List Node → Column → Type 0
IsHeldIn nodes column.Object = Unit {0}
IsHeldIn nodes (column.State k one first) = IsKindIn nodes k × (is_known k ≡ true)
IsHeldIn nodes (column.Formula k) = IsKindIn nodes k

-- the types of parameters are types in the tree
abbrev pub AreKindsIn : List Node → List (List ℕ × Kind) → Type 0
AreKindsIn nodes ps = AllByRecursion (λ (p : List ℕ × Kind). IsKindIn nodes p.1) ps
