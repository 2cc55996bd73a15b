-- What an App holds, as a machine's.
use Rattle.std.specs.Prelude.{◌≡◌, ◌+◌, ◌-◌, ◌<◌, Bool, true, false, List, [], ◌∷◌, length, take, Option, Some, None}
use Rattle.sheet_callers.specs.Callers.{Caller, caller_at}
use Rattle.sheet_callers.specs.Judging.{IsNext}
use Rattle.sheet_callers.specs.Keeping.{keeping}
use Rattle.sheet_state.specs.Stored.{Moment}
use Rattle.sheet_machine_laws.specs.Act.{most_requests}
use Rattle.sheet_machine_laws.specs.Between.{kept_between}
use Rattle.sheet_machine_laws.specs.Machine.{Holding, Doubt, Machine, sure}
use Rattle.sheet_machine_laws.specs.Sound.{IsSound}
use Rattle.sheet_machine.specs.declared.held.Held.{Held}
use Rattle.sheet_machine.specs.declared.held.Pending.{Pending}

-- what is held
abbrev pub holding : Held → Holding
holding a = record {
  book = a.engine.book;
  state = a.engine.state.present.state;
  callers = a.callers;
  accepted = a.accepted;
  kept = kept_between a.engine.kept;
}

-- the first of some moments
abbrev pub first_of : List Moment → Moment → Moment
first_of [] present = present
first_of (m ∷ ms) present = m

-- what was held before the changes that can be undone
abbrev pub before_changes : Held → Holding
before_changes a = record (holding a) { state = (first_of a.engine.state.earlier a.engine.state.present).state }

-- what is held where a pending request is taken in
abbrev pub taken_in : Held → Pending → Holding
taken_in a p = record (holding a) { callers = keeping a.callers p.caller p.number p.line.items p.kept; accepted = a.accepted + 1 }

-- the callers without the last one, where that was admitted
abbrev pub callers_before : Bool → List Caller → List Caller
callers_before true cs = take (length cs - 1) cs
callers_before false cs = cs

-- what is held where it is left out
abbrev pub left_out : Held → Pending → Holding
left_out a p = record (before_changes a) { callers = callers_before p.admitted a.callers }

-- where there is one
abbrev pub if_taken_in : Held → Option Pending → Holding
if_taken_in a None = holding a
if_taken_in a (Some p) = taken_in a p

abbrev pub if_left_out : Held → Option Pending → Holding
if_left_out a None = holding a
if_left_out a (Some p) = left_out a p

-- a pending request can be taken in, and left out
pub record IsPending (a : Held) (p : Pending) : Type 0 where
  pub next : IsNext (caller_at a.callers p.caller) p.number
  pub room : a.accepted < most_requests
  pub mark : p.mark.state.place ≡ 0
  pub others : p.admitted ≡ true → 1 < length a.callers

-- a pending request as one in doubt
abbrev pub doubt_of : Held → Pending → Doubt
doubt_of a p = record { line = p.line.items; held = taken_in a p }

-- the machine: a pending request is in doubt
abbrev pub machine_with : Held → Option Pending → Machine
machine_with a None = sure (holding a)
machine_with a (Some p) = record { held = left_out a p; doubt = Some (doubt_of a p) }

abbrev pub machine_of : Held → Machine
machine_of a = machine_with a a.pending

-- between requests: what is held is sound, nothing can be undone, and no request is pending
pub record IsReady (a : Held) : Type 0 where
  pub sound : IsSound (holding a)
  pub settled : a.engine.state.earlier ≡ []
  pub none : a.pending ≡ None
