-- The columns that a definition declares.
use Rattle.std.specs.Prelude.{◌≡◌, ℕ, ◌<◌, List, [], ◌∷◌, ◌++◌, length, Bool, true, false, Some}
use Rattle.sheet_columns.specs.declared.tree.Column.{Column}
use Rattle.sheet_columns.specs.declared.tree.Column.TheVariants as column
use Rattle.sheet_columns.specs.declared.tree.Node.{Node}
use Rattle.sheet_columns.specs.Tree.{column_of, HasFittingFirst}
use Rattle.sheet_columns.specs.Contents.{holds_objects}
use Rattle.sheet_define_data.specs.declared.definition.Content.{Content}
use Rattle.sheet_define_data.specs.declared.definition.Content.TheVariants.{Object, State, Formula}
use Rattle.sheet_define_data.specs.declared.definition.Declaration.{Declaration}
use Rattle.sheet_define_data.specs.declared.definition.Declaration.TheVariants as declaration

-- whether the declared column holds objects
abbrev pub is_object : Content → Bool
is_object Object = true
is_object (State t one first) = false
is_object (Formula t f) = false

-- whether a declared column holds objects
abbrev pub objects_at : Declaration → List Bool
objects_at (declaration.Callers line path) = []
objects_at (declaration.Column c) = is_object c.content ∷ []
objects_at (declaration.Procedure p) = []
objects_at (declaration.View v) = []

-- for each declared column, in the order of the text, whether it holds objects
abbrev pub objects_in : List Declaration → List Bool
objects_in [] = []
objects_in (d ∷ ds) = objects_at d ++ objects_in ds

-- whether a column of the tree holds objects
abbrev pub is_object_node : Node → Bool
is_object_node n = holds_objects n.column

-- there is a column for what the declared column, the next one, is to hold
abbrev pub IsCounted : List Node → List Column → Declaration → Type 0
IsCounted nodes contents (declaration.Callers line path) = Unit {0}
IsCounted nodes contents (declaration.Column c) = length contents < length nodes
IsCounted nodes contents (declaration.Procedure p) = Unit {0}
IsCounted nodes contents (declaration.View v) = Unit {0}

-- first values are of their columns' kinds
abbrev pub AreFitting : List Column → Type 0
AreFitting [] = Unit {0}
AreFitting (x ∷ xs) = HasFittingFirst x × AreFitting xs

-- the first columns hold objects exactly where these contents do
abbrev pub AreAlike : List Node → List Column → Type 0
AreAlike nodes [] = Unit {0}
AreAlike [] (x ∷ xs) = ⊥
AreAlike (n ∷ nodes) (x ∷ xs) = (is_object_node n ≡ holds_objects x) × AreAlike nodes xs

-- these are object columns
abbrev pub AreObjects : List Node → List ℕ → Type 0
AreObjects nodes [] = Unit {0}
AreObjects nodes (c ∷ cs) = (column_of nodes c ≡ Some column.Object) × AreObjects nodes cs
