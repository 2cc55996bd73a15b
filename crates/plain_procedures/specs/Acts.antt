-- What a procedure does to a book.
use Rattle.std.specs.Prelude.{◌≡◌, List, Result, Ok, Err}
use Rattle.sheet_values.specs.declared.value.Value.{Value}
use Rattle.sheet_columns.specs.declared.formula.Core.{Core}
use Rattle.sheet_columns.specs.declared.statement.CoreStatement.{CoreStatement}
use Rattle.sheet_meaning.specs.declared.workbook.Caller.{Caller}
use Rattle.sheet_meaning.specs.declared.workbook.Schema.{Schema}
use Rattle.sheet_meaning.specs.Statements.{Point}
use Rattle.sheet_meaning.specs.Procedure.{run_procedure}
use Rattle.plain_meaning.specs.declared.stop.Stop.{Stop}
use Rattle.plain_meaning.specs.declared.stop.Stop.TheVariants.{Refused, NoMemory}
use Rattle.plain_procedures.specs.declared.procedure.PlainBook.{PlainBook}

-- the last point's reply, state and kept cells
pub record Leaves (p : Point) (after : PlainBook) (r : List Value) : Type 0 where
  pub reply : r ≡ p.reply
  pub state : after.state ≡ p.state
  pub kept : after.kept.items ≡ p.kept

-- an accepted procedure leaves what its run ends in; a refused one leaves all as it was
abbrev pub Acts : Schema → Core → List CoreStatement → Caller → List Value → PlainBook → PlainBook → Result (List Value) Stop → Type 0
Acts s allow body caller arguments before after (Ok r) =
    (p : Point) × (run_procedure s allow body caller arguments before.state before.kept.items ≡ Ok p) × Leaves p after r
Acts s allow body caller arguments before after (Err (Refused e)) =
    (run_procedure s allow body caller arguments before.state before.kept.items ≡ Err e) × (after ≡ before)
Acts s allow body caller arguments before after (Err NoMemory) = after ≡ before
