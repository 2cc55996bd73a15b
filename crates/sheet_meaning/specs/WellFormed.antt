-- What a well-formed workbook is, and that its `one` cells are filled.
use Rattle.std.specs.Prelude.{◌≡◌, ℕ, ◌+◌, ◌<◌, ◌≤◌, ◌==◌, not, Bool, if◌then◌else◌, List, length, map, filter, find, sum_by, Option, Some, None}
use Rattle.std.specs.List.{filter_map, flat_map, enumerate_from, AllByRecursion}
use Rattle.std.specs.Ordering.{nat_cmp, on}
use Rattle.sheet_values.specs.declared.value.Kind.{Kind}
use Rattle.sheet_values.specs.declared.value.Kind.TheVariants as kind
use Rattle.sheet_values.specs.declared.value.Value.{Value}
use Rattle.sheet_values.specs.declared.value.Value.TheVariants.{Truth, Number, Text, Object}
use Rattle.sheet_values.specs.Sorted as sorted
use Rattle.sheet_values.specs.Sets.{IsRising}
use Rattle.sheet_columns.specs.declared.tree.Column.{Column}
use Rattle.sheet_columns.specs.declared.tree.Column.TheVariants as column
use Rattle.sheet_columns.specs.declared.tree.Node.{Node}
use Rattle.sheet_columns.specs.Tree.{column_of, above_of, is_number}
use Rattle.sheet_meaning.specs.Workbook.{object_at, column_in, set_in, formula_cells}
use Rattle.sheet_meaning.specs.declared.workbook.ColumnFormula.{ColumnFormula}
use Rattle.sheet_meaning.specs.declared.workbook.Schema.{Schema}
use Rattle.sheet_meaning.specs.declared.workbook.LiveObject.{LiveObject}
use Rattle.sheet_meaning.specs.declared.workbook.StoredCell.{StoredCell}
use Rattle.sheet_meaning.specs.declared.workbook.State.{State}
use Rattle.sheet_meaning.specs.declared.workbook.Workbook.{Workbook}

-- a state column: its number, the type of its values, whether each cell must hold exactly one, and the first value of a new cell
pub record StateColumn : Type 0 where
  pub number : ℕ
  pub kind : Kind
  pub one : Bool
  pub first : Option Value

abbrev pub as_state : ℕ → Column → Option StateColumn
as_state k column.Object = None
as_state k (column.State kind one first) = Some (record { number = k; kind = kind; one = one; first = first })
as_state k (column.Formula kind) = None

-- the state columns directly under an object column
abbrev pub state_columns : Schema → ℕ → List StateColumn
state_columns s c =
    filter_map (λ (x : ℕ × Node). if is_number c x.1.above then as_state x.0 x.1.column else None) (enumerate_from 0 s.columns)

abbrev pub as_formula : ℕ → Column → Option ℕ
as_formula k column.Object = None
as_formula k (column.State kind one first) = None
as_formula k (column.Formula kind) = Some k

-- the numbers of all formula columns, in order
abbrev pub all_formula_columns : List Node → List ℕ
all_formula_columns nodes = filter_map (λ (x : ℕ × Node). as_formula x.0 x.1.column) (enumerate_from 0 nodes)

-- the columns of the formulas, in order
abbrev pub formula_numbers : Schema → List ℕ
formula_numbers s = map (λ (f : ColumnFormula). f.column) s.formulas

-- there is one formula for each formula column, in order, and nothing else
abbrev pub HasFormulas : Schema → Type 0
HasFormulas s = formula_numbers s ≡ all_formula_columns s.columns

-- the state cells that there are, by object and column: those of each live object
abbrev pub state_cells : Workbook → List (ℕ × ℕ)
state_cells w = flat_map (λ (x : LiveObject). map (λ (s : StateColumn). (x.number, s.number)) (state_columns w.schema x.column)) w.state.objects

-- the cells that must hold exactly one value, by object and column
abbrev pub one_cells : Workbook → List (ℕ × ℕ)
one_cells w =
    flat_map
    (λ (x : LiveObject). map (λ (s : StateColumn). (x.number, s.number)) (filter (λ (s : StateColumn). s.one) (state_columns w.schema x.column)))
    w.state.objects

-- the first of these that doesn't
abbrev pub unfilled : Workbook → Option (ℕ × ℕ)
unfilled w = find (λ (x : ℕ × ℕ). not (length (set_in w.state.cells x.0 x.1) == 1)) (one_cells w)

-- how many values state cells hold
abbrev pub stored_values : List StoredCell → ℕ
stored_values cells = sum_by (λ (x : StoredCell). length x.set) cells

-- how many state and formula cells there are
abbrev pub cell_count : Workbook → ℕ
cell_count w = length (state_cells w) + length (formula_cells w)

-- the root has nothing above it; any other object stands in an object column, under a live object of the column above with a lower number
abbrev pub IsUnder : Workbook → LiveObject → Option ℕ → Type 0
IsUnder w x None = (x.number ≡ 0) × (x.column ≡ 0)
IsUnder w x (Some p) =
    (p < x.number)
    × (column_of w.schema.columns x.column ≡ Some column.Object)
    × ((c : ℕ) × (above_of w.schema.columns x.column ≡ Some c) × (column_in (object_at w.state.objects p) ≡ Some c))

-- a value of this type, and of objects a live one
abbrev pub HasKind : State → Kind → Value → Type 0
HasKind s kind.Truth (Truth b) = Unit {0}
HasKind s kind.Number (Number n) = Unit {0}
HasKind s kind.Text (Text t) = Unit {0}
HasKind s (kind.Object c) (Object o) = column_in (object_at s.objects o) ≡ Some c
HasKind s k v = ⊥

-- a state cell holds a set of values of its column's type
abbrev pub HoldsKind : State → StoredCell → Option Column → Type 0
HoldsKind s x (Some (column.State kind one first)) = IsRising x.set × AllByRecursion (HasKind s kind) x.set
HoldsKind s x (Some column.Object) = ⊥
HoldsKind s x (Some (column.Formula kind)) = ⊥
HoldsKind s x None = ⊥

abbrev pub max_objects : ℕ
max_objects = 100000

abbrev pub max_cells : ℕ
max_cells = 1000000

abbrev pub max_values : ℕ
max_values = 1000000

abbrev pub max_number : ℕ
max_number = 1000000000000

pub record IsWellFormed (w : Workbook) : Type 0 where
  pub formulas : HasFormulas w.schema
  -- the root is live, and has the number 0
  pub root : object_at w.state.objects 0 ≡ Some (record { number = 0; column = 0; parent = None })
  -- objects are listed by number, without doubles
  pub rising : sorted.IsRising (on (λ (x : LiveObject). x.number) nat_cmp) w.state.objects
  pub under : AllByRecursion (λ (x : LiveObject). IsUnder w x x.parent) w.state.objects
  -- numbers are below the next one
  pub drawn : AllByRecursion (λ (x : LiveObject). x.number < w.state.next) w.state.objects
  -- there is one state cell for each live object and each state column directly under its column
  pub cells : map (λ (x : StoredCell). (x.object, x.column)) w.state.cells ≡ state_cells w
  pub typed : AllByRecursion (λ (x : StoredCell). HoldsKind w.state x (column_of w.schema.columns x.column)) w.state.cells
  pub few_objects : length w.state.objects ≤ max_objects
  pub few_cells : cell_count w ≤ max_cells
  pub few_values : stored_values w.state.cells ≤ max_values
  pub few_numbers : w.state.next ≤ max_number + 1

-- every cell that must hold exactly one value does
abbrev pub IsFilled : Workbook → Type 0
IsFilled w = unfilled w ≡ None
