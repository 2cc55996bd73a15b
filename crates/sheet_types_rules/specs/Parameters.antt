-- The parameters of procedures and views.
use Rattle.std.specs.Prelude.{ℕ, ◌≤◌, List, length}
use Rattle.sheet_values.specs.declared.value.Kind.{Kind}
use Rattle.sheet_columns.specs.declared.tree.Node.{Node}
use Rattle.sheet_types_rules.specs.Columns.{AreKindsIn}

abbrev pub most_parameters : ℕ
most_parameters = 16

-- there are 16 at most, and their types of objects are those of object columns
abbrev pub AreParametersIn : List Node → List (List ℕ × Kind) → Type 0
AreParametersIn nodes ps = (length ps ≤ most_parameters) × AreKindsIn nodes ps
