-- The bodies of procedures and views: what is in reach there, their `allow` formula, their statements or parts.
use Rattle.std.specs.Prelude.{ℕ, List, ◌∷◌, map, Option, Some, None, Ok, codes, true}
use Rattle.sheet_values.specs.declared.value.Kind.{Kind}
use Rattle.sheet_values.specs.declared.value.Kind.TheVariants as kind
use Rattle.sheet_columns.specs.declared.tree.Node.{Node}
use Rattle.sheet_columns.specs.declared.formula.Core.{Core}
use Rattle.sheet_columns.specs.declared.formula.Core.TheVariants as core
use Rattle.sheet_syntax_trees.specs.declared.tree.Tree.{Tree}
use Rattle.sheet_define_data.specs.declared.definition.Procedure.{Procedure as WrittenProcedure}
use Rattle.sheet_define_data.specs.declared.definition.View.{View as WrittenView}
use Rattle.sheet_types_formulas.specs.declared.scope.Variable.{Variable}
use Rattle.sheet_types_formulas.specs.Answers.{Answer, ◌>>=◌}
use Rattle.sheet_types_formulas.specs.Names.{Reach, reach}
use Rattle.sheet_types_bodies.specs.Statements.{formula_of, listed, in_block}
use Rattle.sheet_types_bodies.specs.Parts.{parts}
use Rattle.sheet_books.specs.declared.body.Procedure.{Procedure}
use Rattle.sheet_books.specs.declared.body.View.{View}

-- a parameter as a variable
abbrev pub variable_of : List ℕ × Kind → Variable
variable_of p = record { name = p.0; kind = p.1 }

-- the variables at the start: `caller`, an object of the callers' column, `operator`, a truth, then the parameters
abbrev pub first_variables : ℕ → List (List ℕ × Kind) → List Variable
first_variables callers parameters =
    record { name = codes "caller"; kind = kind.Object callers } ∷ record { name = codes "operator"; kind = kind.Truth } ∷ map variable_of parameters

-- what is in reach there
abbrev pub start : List Node → List Kind → ℕ → List (List ℕ × Kind) → Reach
start columns kinds callers parameters = reach columns kinds (first_variables callers parameters)

-- an `allow` formula is a truth; where it is left out, it is `true`
unfoldable pub allow_of : Option Tree → Reach → Answer Core
allow_of None r = Ok (core.Truth true)
allow_of (Some e) r = formula_of kind.Truth e r

-- a procedure with those parameters: its `allow` formula, then its statements
unfoldable pub procedure_of : WrittenProcedure → List (List ℕ × Kind) → Reach → Answer Procedure
procedure_of p parameters r =
    allow_of p.allow r >>= (λ a. in_block p.body r 1 >>= (λ b. Ok (record { name = p.name; parameters = parameters; allow = a; body = listed b.list })))

-- a view with those parameters: its `allow` formula, then its parts
unfoldable pub view_of : WrittenView → List (List ℕ × Kind) → Reach → Answer View
view_of v parameters r =
    allow_of v.allow r >>= (λ a. parts v.parts r 1 >>= (λ xs. Ok (record { name = v.name; parameters = parameters; allow = a; parts = xs })))
