-- Well-typed resolved parts of views, and how they are numbered.
use Rattle.std.specs.Prelude.{ℕ, ◌+◌, ◌==◌, ◌&&◌, Bool, true, false, List, [], ◌∷◌, ◌++◌, length, Option, Some, None, is_some}
use Rattle.sheet_values.specs.declared.value.Kind.{Kind}
use Rattle.sheet_columns.specs.declared.tree.Node.{Node}
use Rattle.sheet_columns.specs.declared.view.CoreSlot.{CoreSlot}
use Rattle.sheet_columns.specs.declared.view.CoreView.{CoreView}
use Rattle.sheet_columns.specs.declared.view.CoreView.TheVariants as view
use Rattle.sheet_types_rules.specs.Formulas.{kind_in}

-- a slot with that number, whose formula is well typed
abbrev pub is_slot : List Node → List Kind → List Kind → ℕ → CoreSlot → Bool
is_slot n k v i s = (s.number == i) && is_some (kind_in s.shown n k v)

-- slots in order, of which the first has that number
abbrev pub are_slots : List CoreSlot → List Node → List Kind → List Kind → ℕ → Bool
are_slots [] n k v i = true
are_slots (s ∷ ss) n k v i = is_slot n k v i s && are_slots ss n k v (i + 1)

-- a table with that number; its variable has the type of its source
abbrev pub is_table : List Node → List Kind → List Kind → ℕ → ℕ → List CoreSlot → Option Kind → Bool
is_table n k v i j slots None = false
is_table n k v i j slots (Some x) = (j == i) && are_slots slots n k (v ++ x ∷ []) (i + 1)

-- whether a slot or a table is well typed and has the next number
abbrev pub is_part : CoreView → List Node → List Kind → List Kind → ℕ → Bool
is_part (view.Show s) n k v i = is_slot n k v i s
is_part (view.Table j name e slots) n k v i = is_table n k v i j slots (kind_in e n k v)

-- how many numbers a part takes
abbrev pub numbers_in : CoreView → ℕ
numbers_in (view.Show s) = 1
numbers_in (view.Table j name e slots) = 1 + length slots

-- parts in order, of which the first has that number
abbrev pub are_parts : List CoreView → List Node → List Kind → List Kind → ℕ → Bool
are_parts [] n k v i = true
are_parts (p ∷ ps) n k v i = is_part p n k v i && are_parts ps n k v (i + numbers_in p)
