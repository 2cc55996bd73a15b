-- What well-typed statements and procedures leave.
use Rattle.std.specs.Prelude.{◌≡◌, ℕ, ◌<◌, Bool, true, List, Option, Some, None, Ok}
use Rattle.std.specs.List.{AllByRecursion}
use Rattle.sheet_values.specs.declared.value.Kind.{Kind}
use Rattle.sheet_values.specs.declared.value.Value.{Value}
use Rattle.sheet_columns.specs.Statements.{statements_in}
use Rattle.sheet_columns.specs.Tree.{column_of, IsTree}
use Rattle.sheet_columns.specs.declared.statement.CoreStatement.{CoreStatement}
use Rattle.sheet_columns.specs.declared.tree.Column.TheVariants as column
use Rattle.sheet_columns.specs.declared.tree.Node.{Node}
use Rattle.sheet_types_rules.specs.Columns.{is_known, kinds_from}
use Rattle.sheet_types_rules.specs.Statements.{behind_list}
use Rattle.sheet_meaning.specs.Drawn.{IsDrawn}
use Rattle.sheet_meaning.specs.Arguments.{AreArguments}
use Rattle.sheet_meaning.specs.Formula.{Variables}
use Rattle.sheet_meaning.specs.Procedure.{course_of_procedure}
use Rattle.sheet_meaning.specs.Statements.{Point, Changed, Course, course_statements, workbook}
use Rattle.sheet_meaning.specs.Support.{Cell}
use Rattle.sheet_meaning.specs.WellFormed.{IsWellFormed, IsFilled}
use Rattle.sheet_meaning.specs.Workbook.{object_at, column_in}
use Rattle.sheet_meaning.specs.declared.workbook.Caller.{Caller}
use Rattle.sheet_meaning.specs.declared.workbook.Schema.{Schema}
use Rattle.sheet_meaning.specs.declared.workbook.State.{State}
use Rattle.sheet_books.specs.Books.{IsWellTyped, IsWellTypedProcedure}
use Rattle.sheet_books.specs.Schemas.{schema_of}
use Rattle.sheet_books.specs.declared.body.Procedure.{Procedure}
use Rattle.sheet_books.specs.declared.book.Contents.{Contents}
use Rattle.sheet_engine_types.specs.Types.{HaveKinds, IsTypedSchema}

-- the numbers of all objects in variables were drawn
abbrev pub AreDrawn : State → Variables → Type 0
AreDrawn s sets = AllByRecursion (λ (set : List Value). AllByRecursion (IsDrawn s.next) set) sets

-- the type of each state column is known
abbrev pub KnowsStates : List Node → Type 0
KnowsStates nodes = (c : ℕ) (k : Kind) (one : Bool) (first : Option Value) → column_of nodes c ≡ Some (column.State k one first) → is_known k ≡ true

-- a tree of columns in which the types of state columns are known, and formulas that fit their columns
pub record IsSoundSchema (s : Schema) : Type 0 where
  pub tree : IsTree s.columns
  pub states : KnowsStates s.columns
  pub formulas : IsTypedSchema s

-- a point of a run: a well-formed workbook, and variables of these types whose objects were drawn
pub record IsTypedPoint (s : Schema) (v : List Kind) (p : Point) : Type 0 where
  pub formed : IsWellFormed (workbook s p.state)
  pub kinds : HaveKinds p.state v p.variables
  pub drawn : AreDrawn p.state p.variables

-- a change from a well-formed workbook to another
abbrev pub IsFormedChange : Schema → Changed → Type 0
IsFormedChange s x = IsWellFormed (workbook s x.before) × IsWellFormed (workbook s x.behind)

-- a run whose changes are such and whose last workbook is well formed, refused or not; where it ends, its variables have these types
pub record StaysWellFormed (s : Schema) (v : List Kind) (c : Course) : Type 0 where
  pub changes : AllByRecursion (IsFormedChange s) c.changes
  pub last : IsWellFormed (workbook s c.last.state)
  pub ends : (p : Point) → c.end ≡ Ok p → IsTypedPoint s v p

-- well-typed statements keep a workbook well formed
abbrev pub StatementsStayWellFormed : Type 0
StatementsStayWellFormed =
    (s : Schema) (xs : List CoreStatement) (v u : List Kind) (p : Point)
    → IsSoundSchema s
    → behind_list xs s.columns (kinds_from 0 s.columns) v ≡ Some u
    → IsTypedPoint s v p
    → StaysWellFormed s u (course_statements xs s p)

-- the operator, or a caller whose object was drawn and is of the callers' column where it is live
abbrev pub IsCallerIn : State → ℕ → Option ℕ → Type 0
IsCallerIn s callers None = Unit {0}
IsCallerIn s callers (Some o) = (o < s.next) × ((d : ℕ) → column_in (object_at s.objects o) ≡ Some d → d ≡ callers)

-- the run of a procedure: the same, and where it ends, each cell that must hold exactly one value does
pub record LeavesWellFormed (s : Schema) (c : Course) : Type 0 where
  pub changes : AllByRecursion (IsFormedChange s) c.changes
  pub last : IsWellFormed (workbook s c.last.state)
  pub ends : (p : Point) → c.end ≡ Ok p → IsWellFormed (workbook s p.state)
  pub filled : (p : Point) → c.end ≡ Ok p → IsFilled (workbook s p.state)

-- a procedure of a well-typed book keeps a workbook well formed
abbrev pub ProceduresLeaveWellFormed : Type 0
ProceduresLeaveWellFormed =
    (b : Contents) (p : Procedure) (caller : Caller) (arguments : List Value) (state : State) (kept : List Cell)
    → IsWellTyped b
    → IsTree b.columns
    → IsWellTypedProcedure b.columns b.callers p
    → IsWellFormed (workbook (schema_of b) state)
    → IsCallerIn state b.callers caller.object
    → AreArguments state p.parameters arguments
    → LeavesWellFormed (schema_of b) (course_of_procedure (schema_of b) p.allow (statements_in p.body) caller arguments state kept)

-- the formulas of a well-typed book fit their columns
abbrev pub BooksAreTyped : Type 0
BooksAreTyped = (b : Contents) → IsWellTyped b → IsTypedSchema (schema_of b)
