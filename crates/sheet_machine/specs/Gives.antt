-- What a request comes to: what the machine defines, whole, or want of memory, and then nothing has changed.
use Rattle.std.specs.Prelude.{◌≡◌, ◌⊎◌, ℕ, List, true, false, [], Some, None, Result, Ok, Err}
use Rattle.sheet_requests.specs.Lines.{request_line}
use Rattle.sheet_requests.specs.declared.request.Request.{Request}
use Rattle.sheet_wire.specs.Ranges.{IsInRanges, ReadsBack}
use Rattle.sheet_machine_laws.specs.Judging.{Acted}
use Rattle.sheet_machine_laws.specs.Machine.{Holding}
use Rattle.sheet_machine_laws.specs.Step.{is_accepted}
use Rattle.sheet_machine.specs.declared.answered.Answered.{Answered}
use Rattle.sheet_machine.specs.declared.held.Held.{Held}
use Rattle.sheet_machine.specs.declared.held.Pending.{Pending}
use Rattle.sheet_machine.specs.Held.{holding, taken_in, left_out, IsPending}
use Rattle.sheet_machine.specs.Told.{told}

-- the request isn't accepted, and nothing is pending
pub record Settles (acted : Acted) (new : Held) (a : Answered) : Type 0 where
  pub acts : acted ≡ (holding new, a.reply)
  pub refused : is_accepted a.reply ≡ false
  pub settled : new.engine.state.earlier ≡ []
  pub none : new.pending ≡ None

-- The request is accepted, and pending: taken in it is what the machine defines, and left out all is as before.
pub record Suspends (acted : Acted) (old : Holding) (new : Held) (a : Answered) : Type 0 where
  pub pending : Pending
  pub is : new.pending ≡ Some pending
  pub acts : acted ≡ (taken_in new pending, a.reply)
  pub was : left_out new pending ≡ old
  pub accepted : is_accepted a.reply ≡ true
  pub can : IsPending new pending

-- what is held before, what is held behind, and what is answered
abbrev pub Gives : {E : Type 0} → Acted → Holding → Held → Result Answered E → Type 0
Gives acted old new (Ok a) = (a.body.items ≡ told old.book.columns a.reply) × (Settles acted new a ⊎ Suspends acted old new a)
Gives acted old new (Err e) = (holding new ≡ old) × (new.engine.state.earlier ≡ []) × (new.pending ≡ None)

-- a pending request has this line
abbrev pub HasLine : Held → List ℕ → Type 0
HasLine new line = (p : Pending) → new.pending ≡ Some p → p.line.items ≡ line

-- a pending request has the line of this one, which reads back
abbrev pub HasLineOf : Held → Request → Type 0
HasLineOf new q = (p : Pending) → new.pending ≡ Some p → (p.line.items ≡ request_line q) × (IsInRanges q → ReadsBack p.line.items q)
