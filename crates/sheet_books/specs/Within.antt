-- What well-typed formulas give is of the types of their columns and positions.
use Rattle.std.specs.Prelude.{◌≡◌, List, Some}
use Rattle.std.specs.List.{AllByRecursion}
use Rattle.sheet_values.specs.declared.value.Kind.{Kind}
use Rattle.sheet_columns.specs.declared.tree.Node.{Node}
use Rattle.sheet_columns.specs.declared.formula.Core.{Core}
use Rattle.sheet_columns.specs.Tree.{IsTree}
use Rattle.sheet_types_rules.specs.Columns.{IsKindIn}
use Rattle.sheet_types_rules.specs.Formulas.{kind_in}

-- Where types of objects among the columns and positions are those of object columns, so is the type of each formula.
abbrev pub KindsAreWithin : Type 0
KindsAreWithin =
    (e : Core) (n : List Node) (k v : List Kind) (x : Kind)
    → IsTree n → AllByRecursion (IsKindIn n) k → AllByRecursion (IsKindIn n) v → kind_in e n k v ≡ Some x → IsKindIn n x
