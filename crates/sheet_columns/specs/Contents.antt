-- What a column holds, changed after it was added.
use Rattle.std.specs.Prelude.{ℕ, zero, suc, Bool, true, false, List, [], ◌∷◌}
use Rattle.sheet_columns.specs.declared.tree.Column.{Column}
use Rattle.sheet_columns.specs.declared.tree.Column.TheVariants.{Object, State, Formula}
use Rattle.sheet_columns.specs.declared.tree.Node.{Node}

-- whether a column holds objects
abbrev pub holds_objects : Column → Bool
holds_objects Object = true
holds_objects (State k one first) = false
holds_objects (Formula k) = false

-- a column that holds this instead
abbrev pub holding : Node → Column → Node
holding n x = record { above = n.above; name = n.name; column = x }

-- the tree in which the column of that number holds this instead
abbrev pub with_column : List Node → ℕ → Column → List Node
with_column [] c x = []
with_column (n ∷ nodes) zero x = holding n x ∷ nodes
with_column (n ∷ nodes) (suc c) x = n ∷ with_column nodes c x
