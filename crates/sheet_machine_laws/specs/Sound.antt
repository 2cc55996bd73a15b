-- What a machine holds is always sound.
use Rattle.std.specs.Prelude.{◌≡◌, ℕ, ◌<◌, ◌≤◌, length, sum_by, Option, Some, None}
use Rattle.std.specs.List.{AllByRecursion}
use Rattle.sheet_columns.specs.Tree.{IsTree}
use Rattle.sheet_meaning.specs.Drawn.{IsDrawn}
use Rattle.sheet_meaning.specs.Workbook.{object_at, column_in}
use Rattle.sheet_meaning.specs.WellFormed.{IsWellFormed, IsFilled}
use Rattle.sheet_meaning.specs.Statements.{value_weight, max_reply}
use Rattle.sheet_books.specs.Books.{IsWellTyped}
use Rattle.sheet_requests.specs.declared.reply.Answer.{Answer}
use Rattle.sheet_requests.specs.declared.reply.Answer.TheVariants as answer
use Rattle.sheet_callers.specs.Callers.{Caller, KeptRequest}
use Rattle.sheet_callers.specs.Sound.{AreCallers}
use Rattle.sheet_machine_laws.specs.Act.{most_requests}
use Rattle.sheet_machine_laws.specs.Machine.{Holding, Doubt, Machine, workbook_of}

-- an answer that was within the limit of a reply, and of drawn objects
abbrev pub IsFitting : ℕ → Answer → Type 0
IsFitting next (answer.Values set) = AllByRecursion (IsDrawn next) set × (sum_by value_weight set ≤ max_reply)
IsFitting next (answer.Caller n) = Unit {0}

-- a kept request: its line has 1,000,000 bytes at most
abbrev pub IsKept : ℕ → KeptRequest → Type 0
IsKept next k = (length k.line ≤ 1000000) × IsFitting next k.answer

-- the object of a caller was drawn, and where it is live it is of the callers' column
abbrev pub HasObject : Holding → Option ℕ → Type 0
HasObject h None = Unit {0}
HasObject h (Some o) = (o < h.state.next) × ((c : ℕ) → column_in (object_at h.state.objects o) ≡ Some c → c ≡ h.book.callers)

-- a caller among those of what is held
pub record IsCaller (h : Holding) (c : Caller) : Type 0 where
  pub object : HasObject h c.object
  pub few : c.last ≤ h.accepted
  pub kept : AllByRecursion (IsKept h.state.next) c.kept

-- what is held: a well-typed book, a well-formed and filled workbook, callers, and as many requests as may be accepted
pub record IsSound (h : Holding) : Type 0 where
  pub typed : IsWellTyped h.book
  pub tree : IsTree h.book.columns
  pub formed : IsWellFormed (workbook_of h)
  pub filled : IsFilled (workbook_of h)
  pub callers : AreCallers h.callers
  pub each : AllByRecursion (IsCaller h) h.callers
  pub few : h.accepted ≤ most_requests

-- what a request in doubt would leave
abbrev pub IsSoundDoubt : Option Doubt → Type 0
IsSoundDoubt None = Unit {0}
IsSoundDoubt (Some d) = IsSound d.held

-- what a machine holds, and what it would hold where its doubt is settled in the journal
pub record IsSoundMachine (m : Machine) : Type 0 where
  pub held : IsSound m.held
  pub doubt : IsSoundDoubt m.doubt
