-- The types that stand in a definition, and first values.
use Rattle.std.specs.Prelude.{ℕ, ◌==◌, neg_ℤ, List, [], ◌∷◌, Bool, false, ◌&&◌, if◌then◌else◌, Option, Some, None, option_map, option_and_then, unwrap_or, Ok, Err}
use Rattle.sheet_values.specs.declared.value.Kind.{Kind}
use Rattle.sheet_values.specs.declared.value.Kind.TheVariants as kind
use Rattle.sheet_values.specs.declared.value.Value.{Value}
use Rattle.sheet_values.specs.declared.value.Value.TheVariants as value
use Rattle.sheet_columns.specs.declared.tree.Column.TheVariants as column
use Rattle.sheet_columns.specs.declared.tree.Column as columns
use Rattle.sheet_columns.specs.declared.tree.Node.{Node}
use Rattle.sheet_columns.specs.Tree.{child_named, column_of, path}
use Rattle.sheet_columns.specs.Contents.{holds_objects}
use Rattle.sheet_define_data.specs.declared.definition.Content.{Content}
use Rattle.sheet_define_data.specs.declared.definition.Content.TheVariants as content
use Rattle.sheet_define_data.specs.declared.definition.Literal.{Literal}
use Rattle.sheet_define_data.specs.declared.definition.Literal.TheVariants as literal
use Rattle.sheet_define_data.specs.declared.definition.Path.{Path}
use Rattle.sheet_define_data.specs.declared.definition.TypeName.{TypeName}
use Rattle.sheet_define_data.specs.declared.definition.TypeName.TheVariants as type
use Rattle.sheet_types_formulas.specs.declared.refusal.TypeRefusal.TheVariants.{UnknownName, Mismatch, NeedsFirst}
use Rattle.sheet_types_formulas.specs.Answers.{Answer, ◌>>=◌}
use Rattle.sheet_types_rules.specs.Kinds.{same_kind}
use Rattle.sheet_types_formulas.specs.Kinds.{kind_text}

-- the column that names lead to, from a column down
abbrev pub follow : List Node → ℕ → List (List ℕ) → Option ℕ
follow nodes c [] = Some c
follow nodes c (name ∷ names) = option_and_then (λ d. follow nodes d names) (child_named nodes c name)

-- whether there is an object column of that number
abbrev pub is_object_column : List Node → ℕ → Bool
is_object_column nodes c = unwrap_or (option_map holds_objects (column_of nodes c)) false

-- the column of that number, where it is an object column
abbrev pub if_object_column : List Node → ℕ → Option ℕ → Answer ℕ
if_object_column nodes line None = Err (UnknownName line)
if_object_column nodes line (Some c) = if is_object_column nodes c then Ok c else Err (UnknownName line)

-- the object column at a path, which goes from the root down
abbrev pub object_column_at : List Node → Path → Answer ℕ
object_column_at nodes p = if_object_column nodes p.line (follow nodes 0 p.names)

-- the type that stands there
abbrev pub kind_of : List Node → TypeName → Answer Kind
kind_of nodes type.Number = Ok kind.Number
kind_of nodes type.Text = Ok kind.Text
kind_of nodes type.Truth = Ok kind.Truth
kind_of nodes (type.Object p) = object_column_at nodes p >>= λ c. Ok (kind.Object c)

-- the type of a formula column, which is unknown where none is declared
abbrev pub declared_kind : List Node → Option TypeName → Answer Kind
declared_kind nodes None = Ok kind.Unknown
declared_kind nodes (Some t) = kind_of nodes t

-- the line of a first value
abbrev pub literal_line : Literal → ℕ
literal_line (literal.Number line n) = line
literal_line (literal.Negative line n) = line
literal_line (literal.Text line text) = line
literal_line (literal.Truth line b) = line

-- the type of a first value
abbrev pub literal_kind : Literal → Kind
literal_kind (literal.Number line n) = kind.Number
literal_kind (literal.Negative line n) = kind.Number
literal_kind (literal.Text line text) = kind.Text
literal_kind (literal.Truth line b) = kind.Truth

-- the value that a first value stands for
abbrev pub literal_value : Literal → Value
literal_value (literal.Number line n) = value.Number n
literal_value (literal.Negative line n) = value.Number (neg_ℤ n)
literal_value (literal.Text line text) = value.Text text
literal_value (literal.Truth line b) = value.Truth b

-- the first value of a state column of that type, which is of that type
abbrev pub first_value : List Node → Kind → Literal → Answer Value
first_value nodes k l =
    if same_kind k (literal_kind l) then Ok (literal_value l) else Err (Mismatch (literal_line l) (kind_text nodes k) (kind_text nodes (literal_kind l)))

-- a state column of that type: of one value and directly under the root it has a first value
abbrev pub state_column : List Node → ℕ → ℕ → Bool → Option Literal → Kind → Answer columns.Column
state_column nodes number depth one None k = if one && depth == 0 then Err (NeedsFirst (path nodes number)) else Ok (column.State k one None)
state_column nodes number depth one (Some l) k = first_value nodes k l >>= λ v. Ok (column.State k one (Some v))

-- what the column of that number and depth holds
abbrev pub column_content : List Node → ℕ → ℕ → Content → Answer columns.Column
column_content nodes number depth content.Object = Ok column.Object
column_content nodes number depth (content.State t one first) = kind_of nodes t >>= state_column nodes number depth one first
column_content nodes number depth (content.Formula t f) = declared_kind nodes t >>= λ k. Ok (column.Formula k)
