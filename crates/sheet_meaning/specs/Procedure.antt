-- The run of a procedure, for a caller and arguments.
use Rattle.std.specs.Prelude.{ℕ, if◌then◌else◌, List, [], ◌∷◌, length, map, Option, Some, None, Result, Ok, Err}
use Rattle.sheet_values.specs.declared.value.Value.{Value}
use Rattle.sheet_values.specs.declared.value.Value.TheVariants.{Truth}
use Rattle.sheet_columns.specs.declared.fault.Place.TheVariants as place
use Rattle.sheet_columns.specs.declared.formula.Core.{Core}
use Rattle.sheet_columns.specs.declared.statement.CoreStatement.{CoreStatement}
use Rattle.sheet_meaning.specs.declared.refusal.Refusal.{Refusal}
use Rattle.sheet_meaning.specs.declared.refusal.Refusal.TheVariants.{Denied, NotOneCell}
use Rattle.sheet_meaning.specs.Formula.{Variables, objects_of, truth}
use Rattle.sheet_meaning.specs.Workbook.{set_in}
use Rattle.sheet_meaning.specs.WellFormed.{unfilled}
use Rattle.sheet_meaning.specs.Support.{Cell}
use Rattle.sheet_meaning.specs.Statements.{Point, Course, workbook, still, course_next, course_from, course_statements, formula}
use Rattle.sheet_meaning.specs.declared.workbook.Schema.{Schema}
use Rattle.sheet_meaning.specs.declared.workbook.State.{State}
use Rattle.sheet_meaning.specs.declared.workbook.Caller.{Caller}

-- the variables at the start: `caller`, `operator`, and the arguments
abbrev pub first_variables : Caller → List Value → Variables
first_variables caller arguments = objects_of caller.object ∷ (Truth caller.operator ∷ []) ∷ map (λ a. a ∷ []) arguments

-- where a run begins
abbrev pub beginning : Caller → List Value → State → List Cell → Point
beginning caller arguments state kept = record { state = state; variables = first_variables caller arguments; reply = []; kept = kept }

-- the `allow` formula must be one; false refuses
abbrev pub course_of_allow : Schema → Core → Point → Course
course_of_allow s allow p =
    let r = truth (place.Statement 0) (formula s p 0 allow) in
    course_from s (r.uses ∷ []) r p (λ holds q. still q (if holds then Ok q else Err Denied))

-- every cell that must hold exactly one value does; the first that doesn't is a refusal
abbrev pub refuse_unfilled : Point → Option (ℕ × ℕ) → Result Point Refusal
refuse_unfilled p None = Ok p
refuse_unfilled p (Some x) = Err (NotOneCell x.0 x.1 (length (set_in p.state.cells x.0 x.1)))

abbrev pub test_filled : Schema → Point → Result Point Refusal
test_filled s p = refuse_unfilled p (unfilled (workbook s p.state))

-- the run of a procedure from a state and kept cells: the `allow` formula, the statements, then the test of the `one` cells
abbrev pub course_of_procedure : Schema → Core → List CoreStatement → Caller → List Value → State → List Cell → Course
course_of_procedure s allow body caller arguments state kept =
    course_next (course_of_allow s allow (beginning caller arguments state kept)) (λ p. course_next (course_statements body s p) (λ q. still q (test_filled s q)))

-- what the `allow` formula, and the run of a procedure, end in
abbrev pub admit : Schema → Core → Point → Result Point Refusal
admit s allow p = (course_of_allow s allow p).end

abbrev pub run_procedure : Schema → Core → List CoreStatement → Caller → List Value → State → List Cell → Result Point Refusal
run_procedure s allow body caller arguments state kept = (course_of_procedure s allow body caller arguments state kept).end
