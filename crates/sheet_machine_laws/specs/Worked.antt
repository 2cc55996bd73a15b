-- A small workbook, and what its operator's numbers come to.
use Rattle.std.specs.Prelude.{◌≡◌, ℕ, Bool, true, false, List, [], ◌∷◌, codes, Some, None}
use Rattle.sheet_values.specs.declared.value.Kind.TheVariants as kind
use Rattle.sheet_values.specs.declared.value.Value.TheVariants.{Truth}
use Rattle.sheet_columns.specs.Tree.{root}
use Rattle.sheet_columns.specs.declared.tree.Column.TheVariants as column
use Rattle.sheet_columns.specs.declared.formula.Core.{Truth as True, Root, Variable}
use Rattle.sheet_columns.specs.declared.statement.Change.TheVariants as change
use Rattle.sheet_columns.specs.declared.statement.CoreStatement.{CoreStatement, Change}
use Rattle.sheet_columns.specs.Statements.{statements_in}
use Rattle.sheet_columns.specs.declared.statement.Statements.{Statements}
use Rattle.sheet_books.specs.declared.book.Contents.{Contents}
use Rattle.sheet_requests.specs.declared.request.Request.{Request}
use Rattle.sheet_requests.specs.declared.request.Request.TheVariants.{Do}
use Rattle.sheet_requests.specs.declared.reply.Reply.TheVariants.{Accepted, Kept, Refused}
use Rattle.sheet_requests.specs.declared.reply.Answer.TheVariants.{Values}
use Rattle.sheet_requests.specs.declared.reply.Refusal.TheVariants.{Differs, Ahead}
use Rattle.sheet_machine_laws.specs.Machine.{Holding, start}
use Rattle.sheet_machine_laws.specs.Act.{act}

-- `state S : truth one = false` and `procedure turn(s : truth) { .. }` with these statements
abbrev pub book : Statements → Contents
book body = record {
  columns = root ∷ record { above = Some 0; name = codes "S"; column = column.State kind.Truth true (Some (Truth false)) } ∷ [];
  callers = 0;
  formulas = None ∷ None ∷ [];
  procedures = record { name = codes "turn"; parameters = (codes "s", kind.Truth) ∷ []; allow = True true; body = body } ∷ [];
  views = [];
}

-- `set S = s`
abbrev pub set_s : List CoreStatement
set_s = Change 1 change.Set (record { object = Root; column = 1 }) (Variable 2) ∷ []

-- the operator's call of `turn` with that number and that argument
abbrev pub turn : ℕ → Bool → Request
turn n b = Do (codes "op") (codes "turn") n (Truth b ∷ [])

-- at the start
abbrev pub at_start : Statements → Holding
at_start body = start (book body) (codes "op")

-- after the first call
abbrev pub turned : Statements → Holding
turned body = (act (at_start body) (turn 1 true)).0

-- 1 is accepted; the same request is answered again, another one with its number differs, and 3 is ahead
pub record Numbers (body : Statements) : Type 0 where
  pub first : (act (at_start body) (turn 1 true)).1 ≡ Accepted 1 (Values [])
  pub counted : (turned body).accepted ≡ 1
  pub again : act (turned body) (turn 1 true) ≡ (turned body, Kept 1 (Values []))
  pub other : act (turned body) (turn 1 false) ≡ (turned body, Refused Differs)
  pub ahead : act (turned body) (turn 3 true) ≡ (turned body, Refused (Ahead 1))

abbrev pub WorkedNumbers : Type 0
WorkedNumbers = (body : Statements) → statements_in body ≡ set_s → Numbers body
