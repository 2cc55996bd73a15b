-- How the run of a procedure goes, part by part.
use Rattle.std.specs.Prelude.{◌≡◌, List, [], Result, Ok, Err}
use Rattle.sheet_values.specs.declared.value.Value.{Value}
use Rattle.sheet_columns.specs.Statements.{statements_in}
use Rattle.sheet_books.specs.declared.body.Procedure.{Procedure}
use Rattle.sheet_books.specs.declared.book.Contents.{Contents}
use Rattle.sheet_books.specs.Schemas.{schema_of}
use Rattle.sheet_meaning.specs.Procedure.{first_variables, admit, test_filled}
use Rattle.sheet_meaning.specs.Statements.{Point, workbook, next, run_statements}
use Rattle.sheet_meaning.specs.Support.{Cell}
use Rattle.sheet_meaning.specs.WellFormed.{IsFilled}
use Rattle.sheet_meaning.specs.declared.refusal.Refusal.{Refusal}
use Rattle.sheet_meaning.specs.declared.workbook.Caller.{Caller}
use Rattle.sheet_state.specs.Stored.{Stored}
use Rattle.sheet_procs.specs.Runs.{point, IsRefusal, GoesBack}
use Rattle.sheet_procs.specs.declared.progress.Progress.{Progress}
use Rattle.sheet_procs.specs.declared.refusal.ProcedureRefusal.{ProcedureRefusal}

-- where a run begins: the variables of a caller and arguments, no reply, and no touched cell
abbrev pub first_progress : Caller → List Value → Progress
first_progress caller arguments = record { variables = first_variables caller arguments; reply = []; touched = [] }

-- the statements of a procedure, then the test of the `one` cells
abbrev pub behind_allow : Contents → Procedure → Point → Result Point Refusal
behind_allow b p q = next (run_statements (statements_in p.body) (schema_of b) q) (test_filled (schema_of b))

-- the `allow` formula, then these
abbrev pub parts : Contents → Procedure → Point → Result Point Refusal
parts b p q = next (admit (schema_of b) p.allow q) (behind_allow b p)

-- a run over an engine's state: its reply and its state are those of the last point, and the workbook is filled, or it is refused as
-- defined; the way back stays
abbrev pub Performed : Contents → Stored → Stored → (Point → Result Point Refusal) → Progress → Result (List Value) ProcedureRefusal → Type 0
Performed b k l f m (Ok reply) =
    ((kept : List Cell) → (p : Point) × (f (point k m kept) ≡ Ok p) × (reply ≡ p.reply) × (l.present.state ≡ p.state))
    × IsFilled (workbook (schema_of b) l.present.state)
    × GoesBack k l
Performed b k l f m (Err x) = ((kept : List Cell) → IsRefusal x (f (point k m kept))) × GoesBack k l

-- the end of a run: the reply where all cells that must hold exactly one value do, else the refusal for the least that doesn't
abbrev pub Closes : Result (List Value) ProcedureRefusal → Contents → Stored → Progress → Type 0
Closes (Ok reply) b k m = IsFilled (workbook (schema_of b) k.present.state) × (reply ≡ m.reply)
Closes (Err x) b k m = (kept : List Cell) → IsRefusal x (test_filled (schema_of b) (point k m kept))
