-- What a call of a procedure comes to.
use Rattle.std.specs.Prelude.{◌≡◌, ◌≤◌, ℕ, List, [], ◌∷◌, ◌++◌, length, take, slice_get, Some, None, Result, Ok, Err}
use Rattle.sheet_values.specs.declared.value.Value.{Value}
use Rattle.sheet_columns.specs.Statements.{statements_in}
use Rattle.sheet_books.specs.declared.body.Procedure.{Procedure}
use Rattle.sheet_books.specs.Schemas.{schema_of}
use Rattle.sheet_engine.specs.Seen.{Seen, workbook_in}
use Rattle.sheet_meaning.specs.Arguments.{bad_argument}
use Rattle.sheet_meaning.specs.Procedure.{run_procedure}
use Rattle.sheet_meaning.specs.Statements.{Point}
use Rattle.sheet_meaning.specs.WellFormed.{IsFilled}
use Rattle.sheet_meaning.specs.declared.refusal.Refusal.{Refusal}
use Rattle.sheet_meaning.specs.declared.workbook.Caller.{Caller}
use Rattle.sheet_state.specs.Stored.{Stored}
use Rattle.sheet_procs.specs.Runs.{IsRefusal}
use Rattle.sheet_procs.specs.declared.refusal.ProcedureRefusal.{ProcedureRefusal}

-- a caller may take one state back to the other, and to every mark that it took before that
pub record CanUndo (old new : Stored) : Type 0 where
  pub good : length old.earlier ≤ length new.earlier
  pub earlier : take (length old.earlier) new.earlier ≡ old.earlier
  pub state : slice_get (new.earlier ++ new.present ∷ []) (length old.earlier) ≡ Some old.present

-- an accepted run leaves the reply and the state of its last point, and a filled workbook
pub record Leaves (p : Point) (set : List Value) (old new : Seen) : Type 0 where
  pub reply : set ≡ p.reply
  pub state : new.state.present.state ≡ p.state
  pub filled : IsFilled (workbook_in new)
  pub back : CanUndo old.state new.state

-- a run ends in a point, which is left, or in a refusal, and then the state is as before
abbrev pub Acts : Result Point Refusal → Result (List Value) ProcedureRefusal → Seen → Seen → Type 0
Acts r (Ok reply) old new = (p : Point) × (r ≡ Ok p) × Leaves p reply old new
Acts r (Err x) old new = IsRefusal x r × (new.state ≡ old.state)

-- the run of a procedure from what is seen of an engine
abbrev pub run_of : Seen → Procedure → Caller → List Value → Result Point Refusal
run_of e p caller arguments = run_procedure (schema_of e.book) p.allow (statements_in p.body) caller arguments e.state.present.state e.kept

-- a call of the procedure with a number
pub record ActsAs (number : ℕ) (caller : Caller) (arguments : List Value) (result : Result (List Value) ProcedureRefusal) (old new : Seen) : Type 0 where
  pub procedure : Procedure
  pub is : slice_get old.book.procedures number ≡ Some procedure
  pub acts : Acts (run_of old procedure caller arguments) result old new

-- no argument of the procedure with a number is bad
abbrev pub AreGood : Seen → ℕ → List Value → Type 0
AreGood e number arguments =
    (p : Procedure) → slice_get e.book.procedures number ≡ Some p → bad_argument e.state.present.state p.parameters arguments ≡ None
