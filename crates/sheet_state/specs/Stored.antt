-- What a state stores of a workbook.
use Rattle.std.specs.Prelude.{◌≡◌, ℕ, List, map, Option, Some, None, if◌then◌else◌, true}
use Rattle.std.specs.List.{filter_map, flat_map, enumerate_from, AllByRecursion}
use Rattle.sheet_values.specs.Sorted.{contains}
use Rattle.sheet_columns.specs.ItemOrder.{item_cmp}
use Rattle.sheet_columns.specs.Tree.{is_number}
use Rattle.sheet_columns.specs.declared.formula.Core.TheVariants as core
use Rattle.sheet_columns.specs.declared.item.Item.{Item}
use Rattle.sheet_columns.specs.declared.tree.Column.{Column}
use Rattle.sheet_columns.specs.declared.tree.Column.TheVariants as column
use Rattle.sheet_columns.specs.declared.tree.Node.{Node}
use Rattle.sheet_meaning.specs.Items.{is_changed}
use Rattle.sheet_meaning.specs.WellFormed.{cell_count, IsWellFormed}
use Rattle.sheet_meaning.specs.declared.workbook.ColumnFormula.{ColumnFormula}
use Rattle.sheet_meaning.specs.declared.workbook.LiveObject.{LiveObject}
use Rattle.sheet_meaning.specs.declared.workbook.Schema.{Schema}
use Rattle.sheet_meaning.specs.declared.workbook.State.{State}
use Rattle.sheet_meaning.specs.declared.workbook.Workbook.{Workbook}

-- a formula column; what its formula says doesn't matter to a state
abbrev pub as_formula : ℕ → Column → Option ColumnFormula
as_formula k column.Object = None
as_formula k (column.State kind one first) = None
as_formula k (column.Formula kind) = Some (record { column = k; core = core.Truth true })

-- the columns with some formulas
abbrev pub schema_of : List Node → Schema
schema_of nodes = record { columns = nodes; formulas = filter_map (λ (x : ℕ × Node). as_formula x.0 x.1.column) (enumerate_from 0 nodes) }

-- the workbook of a state
abbrev pub book : List Node → State → Workbook
book nodes s = record { schema = schema_of nodes; state = s }

-- the number of a column, where it is an object column
abbrev pub as_extent : ℕ → Column → Option ℕ
as_extent k column.Object = Some k
as_extent k (column.State kind one first) = None
as_extent k (column.Formula kind) = None

-- the object columns directly under an object column
abbrev pub object_columns : List Node → ℕ → List ℕ
object_columns nodes c = filter_map (λ (x : ℕ × Node). if is_number c x.1.above then as_extent x.0 x.1.column else None) (enumerate_from 0 nodes)

-- the extents that there are, by object and column: those of each live object
abbrev pub extents_of : List Node → List LiveObject → List (ℕ × ℕ)
extents_of nodes objects = flat_map (λ (x : LiveObject). map (λ (k : ℕ). (x.number, k)) (object_columns nodes x.column)) objects

-- a state at one time, with the extents that are stored, and how many state and formula cells there are
pub record Moment : Type 0 where
  pub state : State
  pub extents : List (ℕ × ℕ)
  pub cells : ℕ

-- a state as it is, and as it was before each change that can still be undone, the earliest first
pub record Stored : Type 0 where
  pub present : Moment
  pub earlier : List Moment

-- what is stored is a well-formed workbook of these columns
pub record IsMoment (nodes : List Node) (m : Moment) : Type 0 where
  pub well_formed : IsWellFormed (book nodes m.state)
  pub extents : m.extents ≡ extents_of nodes m.state.objects
  pub cells : m.cells ≡ cell_count (book nodes m.state)

-- it is, and was, of these columns
pub record IsStored (nodes : List Node) (k : Stored) : Type 0 where
  pub present : IsMoment nodes k.present
  pub earlier : AllByRecursion (IsMoment nodes) k.earlier

-- the items are exactly those whose content differs between the two states
abbrev pub AreChanged : State → State → List Item → Type 0
AreChanged s t items = (i : Item) → contains item_cmp i items ≡ is_changed s t i
