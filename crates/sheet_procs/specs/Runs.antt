-- How statements that run over an engine go, against their definition.
use Rattle.std.specs.Prelude.{◌≡◌, List, [], ◌∷◌, ◌++◌, length, take, Result, Ok, Err, OnOk}
use Rattle.sheet_books.specs.declared.book.Contents.{Contents}
use Rattle.sheet_books.specs.Schemas.{schema_of}
use Rattle.sheet_meaning.specs.Run.{Outcome}
use Rattle.sheet_meaning.specs.Statements.{Point, workbook}
use Rattle.sheet_meaning.specs.Support.{Cell}
use Rattle.sheet_meaning.specs.declared.refusal.Refusal.{Refusal}
use Rattle.sheet_meaning.specs.declared.refusal.Refusal.TheVariants as meant
use Rattle.sheet_state.specs.Stored.{Moment, Stored}
use Rattle.sheet_procs_touched.specs.Touched.{Covers}
use Rattle.sheet_procs.specs.declared.refusal.ProcedureRefusal.{ProcedureRefusal}
use Rattle.sheet_procs.specs.declared.refusal.ProcedureRefusal.TheVariants as refused
use Rattle.sheet_procs.specs.declared.progress.Progress.{Progress}

-- the point of a run that an engine's state and the run's own progress stand for, whichever formula cells are kept
abbrev pub point : Stored → Progress → List Cell → Point
point k m kept = record { state = k.present.state; variables = m.variables; reply = m.reply; kept = kept }

-- a refusal is that of the definition; want of memory alone is free
abbrev pub IsRefusal : {A : Type 0} → ProcedureRefusal → Result A Refusal → Type 0
IsRefusal refused.Denied r = r ≡ Err meant.Denied
IsRefusal (refused.CheckFailed n message) r = r ≡ Err (meant.CheckFailed n message)
IsRefusal (refused.FormulaFault f) r = r ≡ Err (meant.FormulaFault f)
IsRefusal (refused.NotOneCell o c n) r = r ≡ Err (meant.NotOneCell o c n)
IsRefusal (refused.Full which limit) r = r ≡ Err (meant.Full which limit)
IsRefusal refused.NoMemory r = Unit {0}

-- what a formula comes to: its value, or its fault
abbrev pub Comes : {A : Type 0} → Result A ProcedureRefusal → Outcome A → Type 0
Comes (Ok a) o = o ≡ Ok a
Comes (Err refused.Denied) o = ⊥
Comes (Err (refused.CheckFailed n message)) o = ⊥
Comes (Err (refused.FormulaFault f)) o = o ≡ Err f
Comes (Err (refused.NotOneCell p c n)) o = ⊥
Comes (Err (refused.Full which limit)) o = ⊥
Comes (Err refused.NoMemory) o = Unit {0}

-- what a state was and is, the earliest first
abbrev pub history : Stored → List Moment
history k = k.earlier ++ k.present ∷ []

-- one state came of another, and can be taken back to it
pub record GoesBack (old new : Stored) : Type 0 where
  pub later : List Moment
  pub is : history new ≡ history old ++ later

-- where it isn't refused, a run ends in a point of its definition, from whichever kept cells
abbrev pub Ends : Result (Unit {0}) ProcedureRefusal → Stored → Progress → Result Point Refusal → Type 0
Ends (Ok u) k m r = (kept : List Cell) × (r ≡ Ok (point k m kept))
Ends (Err x) k m r = IsRefusal x r

-- statements ran over the state of a book: they end as defined, and the way back stays; where they aren't refused, the variables of the
-- beginning are still there, and the touched cells are all that may be unfilled
pub record Runs (b : Contents) (old new : Stored) (before after : Progress) (r : Result (Unit {0}) ProcedureRefusal) (f : Point → Result Point Refusal) : Type 0 where
  pub back : GoesBack old new
  pub front : OnOk r (take (length before.variables) after.variables ≡ before.variables)
  pub covered : OnOk r (Covers (workbook (schema_of b) old.present.state) before.touched → Covers (workbook (schema_of b) new.present.state) after.touched)
  pub ends : (kept : List Cell) → Ends r new after (f (point old before kept))
