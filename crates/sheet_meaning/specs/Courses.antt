-- What holds of every run of statements, and of a procedure.
use Rattle.std.specs.Prelude.{◌≡◌, ℕ, true, false, List, [], ◌∷◌, length, Ok}
use Rattle.std.specs.List.{AllByRecursion}
use Rattle.sheet_values.specs.declared.value.Value.{Value}
use Rattle.sheet_columns.specs.declared.formula.Core.{Core}
use Rattle.sheet_columns.specs.declared.item.Item.{Item}
use Rattle.sheet_columns.specs.declared.item.Item.TheVariants.{Live, Stored}
use Rattle.sheet_columns.specs.declared.statement.CoreStatement.{CoreStatement}
use Rattle.sheet_meaning.specs.Items.{content, is_changed}
use Rattle.sheet_meaning.specs.Procedure.{beginning, course_of_procedure}
use Rattle.sheet_meaning.specs.Statements.{Point, Changed, Course, course_statements, workbook}
use Rattle.sheet_meaning.specs.Support.{Cell, has_cell}
use Rattle.sheet_meaning.specs.WellFormed.{one_cells, IsWellFormed, IsFilled}
use Rattle.sheet_meaning.specs.Workbook.{set_in}
use Rattle.sheet_meaning.specs.declared.workbook.Schema.{Schema}
use Rattle.sheet_meaning.specs.declared.workbook.State.{State}
use Rattle.sheet_meaning.specs.declared.workbook.Caller.{Caller}

-- changes lead from one state to another, each from where the one before it led
abbrev pub Lead : State → List Changed → State → Type 0
Lead s [] t = s ≡ t
Lead s (c ∷ cs) t = (c.before ≡ s) × Lead c.behind cs t

-- no change touches an item
abbrev pub IsUntouched : List Changed → Item → Type 0
IsUntouched changes i = AllByRecursion (λ (c : Changed). is_changed c.before c.behind i ≡ false) changes

-- the changes lead to the last point, which is the end of a course that isn't refused; and what none of them touches stays
pub record IsCourse (p : Point) (c : Course) : Type 0 where
  pub leads : Lead p.state c.changes c.last.state
  pub ends : (q : Point) → c.end ≡ Ok q → c.last ≡ q
  pub stays : (i : Item) → IsUntouched c.changes i → content c.last.state i ≡ content p.state i

abbrev pub StatementsAreCourses : Type 0
StatementsAreCourses = (xs : List CoreStatement) (s : Schema) (p : Point) → IsCourse p (course_statements xs s p)

abbrev pub ProceduresAreCourses : Type 0
ProceduresAreCourses =
    (s : Schema) (allow : Core) (body : List CoreStatement) (caller : Caller) (arguments : List Value) (state : State) (kept : List Cell)
    → IsCourse (beginning caller arguments state kept) (course_of_procedure s allow body caller arguments state kept)

-- a cell that must hold exactly one value does so still, where no change touched it or its object
abbrev pub UntouchedCellsStayFilled : Type 0
UntouchedCellsStayFilled =
    (s : Schema) (p : Point) (c : Course)
    → IsCourse p c
    → IsWellFormed (workbook s p.state)
    → IsWellFormed (workbook s c.last.state)
    → IsFilled (workbook s p.state)
    → (o k : ℕ)
    → has_cell (one_cells (workbook s c.last.state)) (o, k) ≡ true
    → IsUntouched c.changes (Live o)
    → IsUntouched c.changes (Stored o k)
    → length (set_in c.last.state.cells o k) ≡ 1
