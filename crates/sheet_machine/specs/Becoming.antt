-- What becomes of a request that is pending, and what holds of an App with a journal between requests.
use Rattle.std.specs.Prelude.{◌≡◌, ◌⊎◌, ◌+◌, ◌*◌, ◌≤◌, List, [], ◌∷◌, ◌++◌, length, Option, Some, None, Result, Ok, Err}
use Rattle.sheet_outside.specs.Moments.{Contents}
use Rattle.sheet_outside.specs.Told.{WhereTold}
use Rattle.sheet_journal.specs.Layout.{size}
use Rattle.sheet_journal.specs.Journal.{Journal}
use Rattle.sheet_requests.specs.declared.request.Request.{Request}
use Rattle.sheet_requests.specs.declared.reply.Reply.{Reply}
use Rattle.sheet_requests.specs.declared.reply.Reply.TheVariants as reply
use Rattle.sheet_requests.specs.declared.reply.Refusal.TheVariants as refused
use Rattle.sheet_machine_laws.specs.Leading.{Accepts, Leads, in_doubt}
use Rattle.sheet_machine_laws.specs.Machine.{Holding}
use Rattle.sheet_machine_laws.specs.Sound.{IsSound}
use Rattle.sheet_machine_laws.specs.Step.{Event, Took, Doubted, Settles, Acts}
use Rattle.sheet_machine.specs.declared.answered.Answered.{Answered}
use Rattle.sheet_machine.specs.declared.held.Held.{Held}
use Rattle.sheet_machine.specs.declared.held.Pending.{Pending}
use Rattle.sheet_machine.specs.declared.recording.Recorded.{Recorded}
use Rattle.sheet_machine.specs.declared.recording.Recorded.TheVariants.{TakenIn, InDoubt, LeftOut}
use Rattle.sheet_machine.specs.Held.{holding, taken_in, left_out, doubt_of, machine_of, IsPending, IsReady}
use Rattle.sheet_machine.specs.Recording.{Records, spot_of}
use Rattle.sheet_machine.specs.Recovering.{entry_of}

-- ---- between requests

-- each accepted request has moved the journal's place by this much at most
abbrev HasPlace : Held → Journal → Type 0
HasPlace a j = j.place ≤ 9223372036854775807 + 1048582 * a.accepted

-- no request is pending, and the journal isn't in doubt
pub record IsSure (a : Held) (j : Journal) : Type 0 where
  pub ready : IsReady a
  pub sure : j.doubt ≡ None
  pub room : HasPlace a j

-- a request is pending whose record is in doubt: it was accepted, and both with it and without it what is held is sound
pub record IsInDoubt (a : Held) (j : Journal) : Type 0 where
  pub pending : Pending
  pub is : a.pending ≡ Some pending
  pub can : IsPending a pending
  pub without : IsSound (left_out a pending)
  pub with_it : IsSound (taken_in a pending)
  pub accepts : Accepts (left_out a pending) pending.line.items (taken_in a pending)
  pub short : length pending.line.items ≤ 1000000
  pub doubt : j.doubt ≡ Some (size (entry_of pending.line.items))
  pub room : HasPlace a j

abbrev pub IsBetween : Held → Journal → Type 0
IsBetween a j = IsSure a j ⊎ IsInDoubt a j

-- without a journal nothing is pending
abbrev pub IsApp : Held → Option Journal → Type 0
IsApp a None = IsReady a
IsApp a (Some j) = IsBetween a j

-- ---- the record of a pending request

-- it fits, and there is room for it
pub record CanRecord (a : Held) (p : Pending) (j : Journal) : Type 0 where
  pub can : IsPending a p
  pub short : length p.line.items ≤ 1000000
  pub sure : j.doubt ≡ None
  pub room : j.place ≤ 10000000000000000000

module _ (p : Pending) (a : Held) (j : Journal) (now : Held) (is : Journal) (disk later : Option Contents) where
  -- it is written, and the request is taken in
  pub record TakesIn : Type 0 where
    pub held : holding now ≡ taken_in a p
    pub settled : now.engine.state.earlier ≡ []
    pub none : now.pending ≡ None
    pub sure : is.doubt ≡ None
    pub place : is.place ≡ j.place + size (entry_of p.line.items)
    pub file : WhereTold (Records (Took p.line.items ∷ []) (record { place = j.place; doubt = None }) (record { place = is.place; doubt = None })) disk later

  -- it may be written, and the request stays pending
  pub record ComesIntoDoubt : Type 0 where
    pub same : now ≡ a
    pub doubt : is.doubt ≡ Some (size (entry_of p.line.items))
    pub place : is.place ≡ j.place
    pub file : WhereTold (Records (Doubted p.line.items ∷ []) (record { place = j.place; doubt = None }) (record { place = is.place; doubt = Some (doubt_of a p) }))
        disk later

  -- it isn't written, and the request is left out
  pub record IsLeft : Type 0 where
    pub held : holding now ≡ left_out a p
    pub settled : now.engine.state.earlier ≡ []
    pub none : now.pending ≡ None
    pub sure : is.doubt ≡ None
    pub place : is.place ≡ j.place
    pub same : later ≡ disk

abbrev pub Becomes : Recorded → Pending → Held → Journal → Held → Journal → Option Contents → Option Contents → Type 0
Becomes TakenIn p a j now is disk later = TakesIn p a j now is disk later
Becomes InDoubt p a j now is disk later = ComesIntoDoubt p a j now is disk later
Becomes LeftOut p a j now is disk later = IsLeft p a j now is disk later

-- what is then answered
abbrev pub IsChosen : Recorded → Answered → Answered → Answered → Type 0
IsChosen TakenIn answered fault result = result ≡ answered
IsChosen InDoubt answered fault result = result ≡ fault
IsChosen LeftOut answered fault result = (result.reply ≡ reply.Refused refused.NoMemory) × (result.body.items ≡ [])

-- ---- settling, and acting behind it

-- what was in doubt is settled
pub record IsSettled (a : Held) (j : Journal) (now : Held) (is : Journal) (disk later : Option Contents) : Type 0 where
  pub events : List Event
  pub settles : Settles (machine_of a) events (holding now)
  pub leads : Leads (machine_of a).held (in_doubt (machine_of a).doubt ++ events) (holding now)
  pub sure : IsSure now is
  pub file : WhereTold (Records events (spot_of j (machine_of a)) (record { place = is.place; doubt = None })) disk later
  pub book : now.engine.book ≡ a.engine.book

-- or it couldn't be
pub record IsUnsettled (a : Held) (j : Journal) (now : Held) (is : Journal) (disk later : Option Contents) : Type 0 where
  pub doubt : IsInDoubt a j
  pub held : now ≡ a
  pub journal : is ≡ j
  pub file : WhereTold (Records [] (spot_of j (machine_of a)) (spot_of j (machine_of a))) disk later

abbrev pub SettlesAs : {E : Type 0} → Result Unit E → Held → Journal → Held → Journal → Option Contents → Option Contents → Type 0
SettlesAs (Ok u) a j now is disk later = IsSettled a j now is disk later
SettlesAs (Err e) a j now is disk later = IsUnsettled a j now is disk later

-- a request and its reply, where nothing was in doubt
pub record IsActed (h : Holding) (j : Journal) (q : Request) (r : Reply) (now : Held) (is : Journal) (disk later : Option Contents) : Type 0 where
  pub events : List Event
  pub acts : Acts h q r events (machine_of now)
  pub leads : Leads h events (machine_of now).held
  pub between : IsBetween now is
  pub file : WhereTold (Records events (record { place = j.place; doubt = None }) (spot_of is (machine_of now))) disk later
