-- What names mean: variables, and columns in reach.
use Rattle.std.specs.Prelude.{ℕ, ◌+◌, zero, suc, if◌then◌else◌, List, [], ◌∷◌, ◌++◌, Option, Some, None, option_map, option_and_then, unwrap_or, ok_or, slice_index_or, bytes_eq, codes}
use Rattle.std.specs.Option.{option_or}
use Rattle.sheet_values.specs.declared.value.Kind.{Kind}
use Rattle.sheet_values.specs.declared.value.Kind.TheVariants as kind
use Rattle.sheet_columns.specs.declared.tree.Column.{Column}
use Rattle.sheet_columns.specs.declared.tree.Column.TheVariants.{Object, State, Formula}
use Rattle.sheet_columns.specs.declared.tree.Node.{Node}
use Rattle.sheet_columns.specs.Tree.{column_of, above_of, child_named}
use Rattle.sheet_columns.specs.declared.formula.Core.{Core}
use Rattle.sheet_columns.specs.declared.formula.Core.TheVariants as core
use Rattle.sheet_types_formulas.specs.declared.refusal.TypeRefusal.TheVariants.{UnknownName}
use Rattle.sheet_types_formulas.specs.declared.scope.Scope.{Scope}
use Rattle.sheet_types_formulas.specs.declared.scope.Typed.{Typed}
use Rattle.sheet_types_formulas.specs.declared.scope.Variable.{Variable}
use Rattle.sheet_types_formulas.specs.Answers.{Answer}

-- What names are looked up in: the tree of columns, the types of state and formula columns as far as they are known, and the
-- variables by position, an inner one behind those around it.
pub record Reach : Type 0 where
  pub columns : List Node
  pub kinds : List Kind
  pub variables : List Variable

-- what names are looked up in
abbrev pub reach : List Node → List Kind → List Variable → Reach
reach columns kinds variables = record { columns = columns; kinds = kinds; variables = variables }

-- what is looked up in this scope
abbrev pub in_scope : Scope → Reach
in_scope s = reach s.columns.now s.kinds.now s.variables.now

-- the same, where these variables are bound in a formula
abbrev pub within : Scope → List Variable → Reach
within s bound = reach s.columns.now s.kinds.now (s.variables.now ++ bound)

-- one variable more, behind the others
abbrev pub bind : Reach → List ℕ → Kind → Reach
bind r name k = reach r.columns r.kinds (r.variables ++ record { name = name; kind = k } ∷ [])

-- a formula on that line, with its type
abbrev pub typed_as : ℕ → Core → Kind → Typed
typed_as line e k = record { line = line; core = e; kind = k }

-- the last variable of that name, which is the innermost, where the first of these has the position `p`
abbrev pub variable_from : ℕ → ℕ → List ℕ → List Variable → Option Typed
variable_from p line name [] = None
variable_from p line name (v ∷ vs) =
    option_or (variable_from (p + 1) line name vs) (if bytes_eq v.name name then Some (typed_as line (core.Variable p) v.kind) else None)

-- the innermost variable of that name
abbrev pub variable : Reach → ℕ → List ℕ → Option Typed
variable r line name = variable_from 0 line name r.variables

-- the step to a column, of which `e` gives the objects above; past the end of the list no type is known
abbrev pub step_to : Reach → ℕ → Core → ℕ → Column → Typed
step_to r line e c Object = typed_as line (core.ObjectStep e c) (kind.Object c)
step_to r line e c (State k one first) = typed_as line (core.StateStep e c) (slice_index_or r.kinds c kind.Unknown)
step_to r line e c (Formula k) = typed_as line (core.FormulaStep e c) (slice_index_or r.kinds c kind.Unknown)

-- the step from the objects of `e`, which are of that column, to the column of that name directly under it
abbrev pub child : Reach → ℕ → Core → ℕ → List ℕ → Option Typed
child r line e above name =
    option_and_then (λ c. option_map (step_to r line e c) (column_of r.columns c)) (child_named r.columns above name)

-- a column and those above it, the root last. A column has a greater number than the one above it, so as many steps up as its
-- number lead to the root
abbrev pub upward : ℕ → List Node → ℕ → List ℕ
upward zero nodes c = c ∷ []
upward (suc steps) nodes c = c ∷ unwrap_or (option_map (upward steps nodes) (above_of nodes c)) []

-- the column of that name under the first of these columns, else under the second, and so on: `e` leads to the first, `e.up` to the
-- second
abbrev pub nearest : Reach → ℕ → List ℕ → Core → List ℕ → Option Typed
nearest r line name e [] = None
nearest r line name e (c ∷ cs) = option_or (child r line e c name) (nearest r line name (core.Up e) cs)

-- the nearest column of that name where `e` gives an object of this type: under its column, else under the one above, and so on
abbrev pub nearest_to : Reach → ℕ → List ℕ → Core → Kind → Option Typed
nearest_to r line name e (kind.Object c) = nearest r line name e (upward c r.columns c)
nearest_to r line name e k = None

-- the column of that name that is nearest to `this`; where there is no `this`, the one under the root
abbrev pub column_in_reach : Reach → ℕ → List ℕ → Option Typed → Option Typed
column_in_reach r line name None = child r line core.Root 0 name
column_in_reach r line name (Some this) = nearest_to r line name this.core this.kind

-- a name: the innermost variable of that name, else the nearest column
unfoldable pub named : Reach → ℕ → List ℕ → Answer Typed
named r line name = ok_or (option_or (variable r line name) (column_in_reach r line name (variable r line (codes "this")))) (UnknownName line)

-- `this`, `caller` or `operator`, where it is in reach
unfoldable pub word : Reach → ℕ → List ℕ → Answer Typed
word r line name = ok_or (variable r line name) (UnknownName line)
