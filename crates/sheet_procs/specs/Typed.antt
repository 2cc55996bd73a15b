-- Where statements may run: their types fit, and so do the variables.
use Rattle.std.specs.Prelude.{◌≡◌, ◌++◌, ℕ, false, List, [], ◌∷◌, Option, Some, IsSome}
use Rattle.std.specs.List.{AllByRecursion}
use Rattle.sheet_values.specs.declared.value.Kind.{Kind}
use Rattle.sheet_values.specs.Sets.{contains}
use Rattle.sheet_values.specs.declared.value.Value.{Value}
use Rattle.sheet_values.specs.declared.value.Value.TheVariants.{Object}
use Rattle.sheet_books.specs.declared.book.Contents.{Contents}
use Rattle.sheet_books.specs.Schemas.{schema_of}
use Rattle.sheet_columns.specs.Tree.{column_of, above_of}
use Rattle.sheet_columns.specs.declared.statement.Change.{Change}
use Rattle.sheet_columns.specs.declared.statement.CoreStatement.{CoreStatement}
use Rattle.sheet_columns.specs.declared.tree.Column.TheVariants as column
use Rattle.sheet_columns.specs.declared.tree.Node.{Node}
use Rattle.sheet_engine_types.specs.Types.{HasKindWhereLive}
use Rattle.sheet_meaning.specs.Changes.{changed_set}
use Rattle.sheet_meaning.specs.Drawn.{IsDrawn}
use Rattle.sheet_meaning.specs.Statements.{workbook}
use Rattle.sheet_meaning.specs.WellFormed.{HoldsKind, IsWellFormed}
use Rattle.sheet_meaning.specs.Workbook.{object_at, column_in, set_in}
use Rattle.sheet_procs_laws.specs.Keeping.{IsSoundSchema, IsTypedPoint}
use Rattle.sheet_state.specs.Stored.{Stored}
use Rattle.sheet_types_rules.specs.Columns.{kinds_from}
use Rattle.sheet_types_rules.specs.Statements.{behind_list}
use Rattle.sheet_procs.specs.declared.progress.Progress.{Progress}
use Rattle.sheet_procs.specs.Runs.{point}

-- how the types of the positions go on behind some statements, by the types of the columns
abbrev pub Behind : Type 0
Behind = List Node → List Kind → List Kind → Option (List Kind)

-- well-typed statements from a well-formed workbook, with variables of the types that they want
pub record MayRun (behind : Behind) (b : Contents) (k : Stored) (m : Progress) : Type 0 where
  pub sound : IsSoundSchema (schema_of b)
  pub kinds : List Kind
  pub kinds_after : List Kind
  pub typed : IsTypedPoint (schema_of b) kinds (point k m [])
  pub is : behind b.columns (kinds_from 0 b.columns) kinds ≡ Some kinds_after

-- the same with one variable more, for each of some values
pub record MayTurn (body : List CoreStatement) (values : List Value) (b : Contents) (k : Stored) (m : Progress) : Type 0 where
  pub sound : IsSoundSchema (schema_of b)
  pub kinds : List Kind
  pub kind : Kind
  pub kinds_after : List Kind
  pub typed : IsTypedPoint (schema_of b) kinds (point k m [])
  pub fit : AllByRecursion (HasKindWhereLive k.present.state kind) values
  pub drawn : AllByRecursion (IsDrawn k.present.state.next) values
  pub is : behind_list body b.columns (kinds_from 0 b.columns) (kinds ++ kind ∷ []) ≡ Some kinds_after

-- a state cell may be changed so: there is one, and what it then holds is of its type
pub record MayStore (b : Contents) (k : Stored) (how : Change) (o c : ℕ) (set : List Value) : Type 0 where
  pub formed : IsWellFormed (workbook (schema_of b) k.present.state)
  pub live : IsSome (object_at k.present.state.objects o)
  pub under : column_in (object_at k.present.state.objects o) ≡ above_of b.columns c
  pub typed : HoldsKind k.present.state (record { object = o; column = c; set = changed_set how (set_in k.present.state.cells o c) set }) (column_of b.columns c)

-- an object may be made so: under a live one of the column above
pub record MayMake (b : Contents) (k : Stored) (o c : ℕ) : Type 0 where
  pub formed : IsWellFormed (workbook (schema_of b) k.present.state)
  pub live : IsSome (object_at k.present.state.objects o)
  pub under : column_in (object_at k.present.state.objects o) ≡ above_of b.columns c
  pub object_column : column_of b.columns c ≡ Some column.Object

-- objects may be deleted so: the root isn't one of them
pub record MayDelete (b : Contents) (k : Stored) (set : List Value) : Type 0 where
  pub formed : IsWellFormed (workbook (schema_of b) k.present.state)
  pub not_root : contains (Object 0) set ≡ false
