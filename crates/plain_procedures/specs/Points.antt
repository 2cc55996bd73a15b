-- How far the plain program's run has come, and how it ends.
use Rattle.std.specs.Prelude.{◌≡◌, ℕ, List, Result, Ok, Err}
use Rattle.sheet_values.specs.declared.value.Value.{Value}
use Rattle.sheet_columns.specs.declared.fault.Fault.{Fault}
use Rattle.sheet_meaning.specs.declared.run.Run.{Run}
use Rattle.sheet_meaning.specs.declared.run.Use.{Use}
use Rattle.sheet_meaning.specs.declared.refusal.Refusal.{Refusal}
use Rattle.sheet_meaning.specs.declared.refusal.Refusal.TheVariants.{FormulaFault}
use Rattle.sheet_meaning.specs.declared.workbook.Schema.{Schema}
use Rattle.sheet_meaning.specs.Statements.{Point, keeping}
use Rattle.sheet_columns.specs.declared.statement.Change.{Change}
use Rattle.sheet_meaning.specs.declared.workbook.State.{State}
use Rattle.sheet_meaning.specs.Workbook.{set_in}
use Rattle.sheet_meaning.specs.Changes.{changed_set, with_set}
use Rattle.plain_procedures.specs.declared.point.PlainPoint.{PlainPoint}
use Rattle.plain_meaning.specs.declared.stop.Stop.{Stop}
use Rattle.plain_meaning.specs.declared.stop.Stop.TheVariants.{Refused, NoMemory}

-- the point that it stands for
abbrev pub as_point : PlainPoint → Point
as_point p = record { state = p.state; variables = p.variables.items; reply = p.reply; kept = p.kept.items }

-- a run ends as its definition says; want of memory alone is free
abbrev pub Ends : Result PlainPoint Stop → Result Point Refusal → Type 0
Ends (Ok p) r = r ≡ Ok (as_point p)
Ends (Err (Refused e)) r = r ≡ Err e
Ends (Err NoMemory) r = Unit {0}

-- a formula has a value, and its reached cells are kept, or it has a fault
abbrev pub GoesOn : {A : Type 0} → Schema → Run A → Point → Result (A × PlainPoint) Stop → Type 0
GoesOn s r p (Ok x) = (r.outcome ≡ Ok x.0) × (as_point x.1 ≡ keeping s r.uses p)
GoesOn s r p (Err (Refused e)) = (f : Fault) × (r.outcome ≡ Err f) × (e ≡ FormulaFault f)
GoesOn s r p (Err NoMemory) = Unit {0}

-- the state after `set`, `add` or `remove`
abbrev pub stored_in : State → Change → ℕ → ℕ → List Value → State
stored_in s how o c set = with_set s o c (changed_set how (set_in s.cells o c) set)
