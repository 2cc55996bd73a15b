-- What holds of resolved statements, procedures and views.
use Rattle.std.specs.Prelude.{◌≡◌, ℕ, true, List, map, Some, Ok, is_some}
use Rattle.sheet_values.specs.declared.value.Kind.{Kind}
use Rattle.sheet_columns.specs.declared.tree.Node.{Node}
use Rattle.sheet_define_data.specs.declared.statement.Statement.{Statement}
use Rattle.sheet_define_data.specs.declared.definition.Procedure.{Procedure as WrittenProcedure}
use Rattle.sheet_define_data.specs.declared.definition.View.{View as WrittenView}
use Rattle.sheet_types_formulas.specs.declared.scope.Variable.{Variable}
use Rattle.sheet_types_formulas.specs.Names.{reach}
use Rattle.sheet_types_rules.specs.Columns.{kinds_from}
use Rattle.sheet_types_rules.specs.Parameters.{AreParametersIn}
use Rattle.sheet_types_rules.specs.Statements.{behind_list, numbered_list}
use Rattle.sheet_books.specs.declared.body.Procedure.{Procedure}
use Rattle.sheet_books.specs.declared.body.View.{View}
use Rattle.sheet_books.specs.Books.{IsWellTypedProcedure, IsWellTypedView}
use Rattle.sheet_types_bodies.specs.Statements.{Block, in_block}
use Rattle.sheet_types_bodies.specs.Bodies.{start, procedure_of, view_of}

-- Resolved statements are well typed, where the variables before them have these types, and are numbered in order.
abbrev pub StatementsAreTyped : Type 0
StatementsAreTyped =
    (n : List Node) (k : List Kind) (v : List Variable) (xs : List Statement) (i : ℕ) (b : Block)
    → in_block xs (reach n k v) i ≡ Ok b
    → (is_some (behind_list b.list n k (map (λ (x : Variable). x.kind) v)) ≡ true) × (numbered_list b.list i ≡ Some b.next)

-- Resolved procedures are well typed, where the columns have the types that they say, and the parameters are 16 at most, with types of object columns.
abbrev pub ProceduresAreTyped : Type 0
ProceduresAreTyped =
    (n : List Node) (callers : ℕ) (parameters : List (List ℕ × Kind)) (p : WrittenProcedure) (q : Procedure)
    → AreParametersIn n parameters
    → procedure_of p parameters (start n (kinds_from 0 n) callers parameters) ≡ Ok q
    → IsWellTypedProcedure n callers q

-- Resolved views are well typed, where the columns have the types that they say, and the parameters are 16 at most, with types of object columns.
abbrev pub ViewsAreTyped : Type 0
ViewsAreTyped =
    (n : List Node) (callers : ℕ) (parameters : List (List ℕ × Kind)) (v : WrittenView) (w : View)
    → AreParametersIn n parameters
    → view_of v parameters (start n (kinds_from 0 n) callers parameters) ≡ Ok w
    → IsWellTypedView n callers w
