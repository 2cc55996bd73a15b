-- Definitions that a text may stand for, as far as names, numbers and depths go.
use Rattle.std.specs.Prelude.{ℕ, ◌+◌, ◌<◌, ◌≤◌, List, [], ◌∷◌, length, Option, Some, None, pos, ◌≤ℤ◌}
use Rattle.sheet_define_data.specs.declared.definition.Column.{Column}
use Rattle.sheet_define_data.specs.declared.definition.Content.{Content}
use Rattle.sheet_define_data.specs.declared.definition.Content.TheVariants.{Object, State, Formula}
use Rattle.sheet_define_data.specs.declared.definition.Literal.{Literal}
use Rattle.sheet_define_data.specs.declared.definition.Literal.TheVariants.{Number, Negative, Text, Truth}
use Rattle.sheet_define_data.specs.declared.definition.Declaration.{Declaration}
use Rattle.sheet_define_data.specs.declared.definition.Declaration.TheVariants as declaration
use Rattle.sheet_types_rules.specs.Parameters.{most_parameters}

-- the number behind a minus sign has no sign of its own
abbrev pub IsUnsigned : Literal → Type 0
IsUnsigned (Number line n) = Unit {0}
IsUnsigned (Negative line n) = pos 0 ≤ℤ n
IsUnsigned (Text line text) = Unit {0}
IsUnsigned (Truth line b) = Unit {0}

-- a first value, where there is one
abbrev pub IsUnsignedIfAny : Option Literal → Type 0
IsUnsignedIfAny None = Unit {0}
IsUnsignedIfAny (Some v) = IsUnsigned v

-- the first value of a column, where it states one
abbrev pub IsUnsignedFirst : Content → Type 0
IsUnsignedFirst Object = Unit {0}
IsUnsignedFirst (State t one first) = IsUnsignedIfAny first
IsUnsignedFirst (Formula t f) = Unit {0}

-- the first value that a declaration states, where it states one
abbrev pub IsUnsignedAt : Declaration → Type 0
IsUnsignedAt (declaration.Callers line path) = Unit {0}
IsUnsignedAt (declaration.Column c) = IsUnsignedFirst c.content
IsUnsignedAt (declaration.Procedure p) = Unit {0}
IsUnsignedAt (declaration.View v) = Unit {0}

-- where so many object columns are open, the root counted: a column's name has at most 63 bytes, and it stands in some of the open ones
pub record IsOrderlyColumn (count : ℕ) (c : Column) : Type 0 where
  pub short : length c.name ≤ 63
  pub inside : c.depth < count
  pub unsigned : IsUnsignedFirst c.content

-- a column where so many object columns are open; a procedure or a view has 16 parameters at most
abbrev pub IsOrderlyAt : ℕ → Declaration → Type 0
IsOrderlyAt count (declaration.Callers line path) = Unit {0}
IsOrderlyAt count (declaration.Column c) = IsOrderlyColumn count c
IsOrderlyAt count (declaration.Procedure p) = length p.parameters ≤ most_parameters
IsOrderlyAt count (declaration.View v) = length v.parameters ≤ most_parameters

-- how many object columns are open inside a column of that depth
abbrev pub count_inside : ℕ → Content → ℕ
count_inside depth Object = depth + 2
count_inside depth (State t one first) = depth + 1
count_inside depth (Formula t f) = depth + 1

-- how many object columns are open behind a declaration
abbrev pub count_behind : ℕ → Declaration → ℕ
count_behind count (declaration.Callers line path) = count
count_behind count (declaration.Column c) = count_inside c.depth c.content
count_behind count (declaration.Procedure p) = count
count_behind count (declaration.View v) = count

-- declarations, where so many object columns are open
abbrev pub IsOrderlyFrom : ℕ → List Declaration → Type 0
IsOrderlyFrom count [] = Unit {0}
IsOrderlyFrom count (d ∷ ds) = IsOrderlyAt count d × IsOrderlyFrom (count_behind count d) ds

-- Before the first declaration the root alone is open.
abbrev pub IsOrderly : List Declaration → Type 0
IsOrderly ds = IsOrderlyFrom 1 ds
