-- Columns whose cells must hold one value, and their first values.
use Rattle.std.specs.Prelude.{◌≡◌, ◌&&◌, not, Bool, false, List, is_some}
use Rattle.std.specs.List.{AllByRecursion}
use Rattle.sheet_columns.specs.declared.tree.Column.{Column}
use Rattle.sheet_columns.specs.declared.tree.Column.TheVariants.{Object, State, Formula}
use Rattle.sheet_columns.specs.declared.tree.Node.{Node}
use Rattle.sheet_columns.specs.Tree.{is_number}

-- whether each cell of a column must hold one value, and a new cell has none
abbrev pub lacks_first : Column → Bool
lacks_first Object = false
lacks_first (State kind one first) = one && not (is_some first)
lacks_first (Formula kind) = false

-- no column directly under the root is such a column
abbrev pub HasFirstValues : List Node → Type 0
HasFirstValues nodes = AllByRecursion (λ (n : Node). (is_number 0 n.above && lacks_first n.column) ≡ false) nodes
