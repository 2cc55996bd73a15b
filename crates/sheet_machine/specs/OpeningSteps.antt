-- The steps of opening a journal.
use Rattle.std.specs.Prelude.{◌≡◌, ℕ, ◌+◌, ◌≤◌, List, length, Bool, true, false, Option, None, Result, Ok, Err}
use Rattle.sheet_outside.specs.Crash.{File}
use Rattle.sheet_outside.specs.Moments.{Contents}
use Rattle.sheet_journal.specs.declared.journal.JournalRefusal.{JournalRefusal}
use Rattle.sheet_journal.specs.declared.journal.JournalRefusal.TheVariants.{DiskFault, AlreadyThere, NotAJournal, TornLayout}
use Rattle.sheet_journal.specs.declared.journal.JournalRefusal.TheVariants.{NoMemory as NoMemoryToRead}
use Rattle.sheet_journal.specs.Layout.{Entry}
use Rattle.sheet_journal.specs.Journal.{IsReading}
use Rattle.sheet_requests.specs.declared.request.Request.{Request}
use Rattle.sheet_requests.specs.declared.request.WireRefusal.{WireRefusal}
use Rattle.sheet_requests.specs.declared.request.WireRefusal.TheVariants.{NotJson, BadShape, NumberOutside, TextTooLong, LaterForm}
use Rattle.sheet_requests.specs.declared.request.WireRefusal.TheVariants.{NoMemory as NoMemoryForLine}
use Rattle.sheet_machine_laws.specs.Act.{act}
use Rattle.sheet_machine_laws.specs.Machine.{Holding}
use Rattle.sheet_machine_laws.specs.Ranges.{IsKey}
use Rattle.sheet_machine_laws.specs.Step.{is_accepted}
use Rattle.sheet_machine.specs.declared.held.Held.{Held}
use Rattle.sheet_machine.specs.declared.opening.Opened.{Opened}
use Rattle.sheet_machine.specs.declared.opening.OpenRefusal.{OpenRefusal}
use Rattle.sheet_machine.specs.declared.opening.OpenRefusal.TheVariants.{Journal as Unread, Damaged, NoMemory}
use Rattle.sheet_machine.specs.declared.starting.StartRefusal.{StartRefusal}
use Rattle.sheet_machine.specs.declared.starting.StartRefusal.TheVariants.{Definition as StandsForNone, Types, NoMemory as NoMemoryToStart}
use Rattle.sheet_machine.specs.Held.{holding, IsReady}
use Rattle.sheet_machine.specs.Opening.{IsRead, IsRecovered, Reopens}
use Rattle.sheet_machine.specs.Recovering.{Begins, GoesOn, Recovers}
use Rattle.sheet_machine.specs.StartsFrom.{StartsFrom}

-- a refusal of a journal as one of opening
abbrev pub open_refusal : JournalRefusal → OpenRefusal
open_refusal DiskFault = Unread DiskFault
open_refusal AlreadyThere = Unread AlreadyThere
open_refusal (NotAJournal count) = Unread (NotAJournal count)
open_refusal (TornLayout at) = Unread (TornLayout at)
open_refusal NoMemoryToRead = NoMemory

-- a start that is refused as a refusal of opening
abbrev pub start_refusal : StartRefusal → OpenRefusal
start_refusal (StandsForNone why) = Damaged 1
start_refusal (Types why) = Damaged 1
start_refusal NoMemoryToStart = NoMemory

-- a line that is refused, in the record of that number
abbrev pub line_refusal : WireRefusal → ℕ → OpenRefusal
line_refusal NotJson k = Damaged k
line_refusal (BadShape f) k = Damaged k
line_refusal (NumberOutside f) k = Damaged k
line_refusal (TextTooLong f) k = Damaged k
line_refusal LaterForm k = Damaged k
line_refusal NoMemoryForLine k = NoMemory

-- ---- the first record

-- the bytes as an operator's key, or they are none
abbrev pub ReadsKey : List ℕ → Result (List ℕ) OpenRefusal → Type 0
ReadsKey bytes (Ok key) = (key ≡ bytes) × IsKey bytes
ReadsKey bytes (Err (Unread refusal)) = ⊥
ReadsKey bytes (Err (Damaged k)) = (k ≡ 1) × (IsKey bytes → ⊥)
ReadsKey bytes (Err NoMemory) = Unit {0}

-- the start of a definition's book with that key, or there is none
abbrev pub BeginsWith : List ℕ → List ℕ → Result Held OpenRefusal → Type 0
BeginsWith key definition (Ok held) = IsKey key × StartsFrom definition key (holding held) × IsReady held
BeginsWith key definition (Err (Unread refusal)) = ⊥
BeginsWith key definition (Err (Damaged k)) = (k ≡ 1) × ((h : Holding) → IsKey key → StartsFrom definition key h → ⊥)
BeginsWith key definition (Err NoMemory) = Unit {0}

-- what the first record begins with, or it begins with nothing
abbrev pub BeginsAs : Entry → Result Held OpenRefusal → Type 0
BeginsAs first (Ok held) = Begins first (holding held) × IsReady held
BeginsAs first (Err (Unread refusal)) = ⊥
BeginsAs first (Err (Damaged k)) = (k ≡ 1) × ((h : Holding) → Begins first h → ⊥)
BeginsAs first (Err NoMemory) = Unit {0}

-- ---- further records

-- a request is accepted once more, or it isn't accepted
abbrev pub AcceptsAs : Holding → Request → Holding → Result Unit OpenRefusal → Type 0
AcceptsAs h q after (Ok u) = (is_accepted (act h q).1 ≡ true) × (after ≡ (act h q).0) × (after.accepted ≡ h.accepted + 1)
AcceptsAs h q after (Err (Unread refusal)) = ⊥
AcceptsAs h q after (Err (Damaged k)) = (k ≡ h.accepted + 2) × (is_accepted (act h q).1 ≡ false)
AcceptsAs h q after (Err NoMemory) = Unit {0}

-- it goes on with a record, or it doesn't
abbrev pub GoesOnAs : Holding → Entry → Holding → Result Unit OpenRefusal → Type 0
GoesOnAs h entry after (Ok u) = GoesOn h entry after × (after.accepted ≡ h.accepted + 1)
GoesOnAs h entry after (Err (Unread refusal)) = ⊥
GoesOnAs h entry after (Err (Damaged k)) = (k ≡ h.accepted + 2) × ((other : Holding) → GoesOn h entry other → ⊥)
GoesOnAs h entry after (Err NoMemory) = Unit {0}

-- ---- the whole

-- what is held is sound, nothing is pending, and the journal is in no doubt
pub record IsGoing (o : Opened) : Type 0 where
  pub ready : IsReady o.held
  pub sure : o.journal.doubt ≡ None
  pub place : o.journal.place ≤ 9223372036854775807

-- what is held is recovered from the records in front of the journal's place
pub record IsUnderWay (o : Opened) (before now : Option File) : Type 0 where
  pub entries : List Entry
  pub recovers : Recovers entries (holding o.held)
  pub reading : IsReading now entries o.journal
  pub read : IsRead reading.bytes before now
  pub count : length entries ≡ o.held.accepted + 1

-- and there are no further ones
abbrev pub IsAtEnd : Opened → Option File → Option File → Type 0
IsAtEnd o before now = IsRecovered (holding o.held) o.journal.place before now

-- a turn: one record more, or the end, or a refusal
abbrev pub TurnsTo : List ℕ → Opened → Result Bool OpenRefusal → Contents → Contents → Type 0
TurnsTo of new (Ok true) first last = Reopens IsUnderWay of (Ok new) first last
TurnsTo of new (Ok false) first last = Reopens IsAtEnd of (Ok new) first last
TurnsTo of new (Err refusal) first last = Reopens IsAtEnd of (Err refusal) first last

-- the same of all turns
abbrev pub EndsAt : List ℕ → Opened → Result Unit OpenRefusal → Contents → Contents → Type 0
EndsAt of new (Ok u) first last = Reopens IsAtEnd of (Ok new) first last
EndsAt of new (Err refusal) first last = Reopens IsAtEnd of (Err refusal) first last

-- whatever was opened so far, this goes on from there
pub record Turns (old new : Opened) (result : Result Bool OpenRefusal) (before now : Contents) : Type 0 where
  pub turns : (of : List ℕ) (first : Contents) → Reopens IsUnderWay of (Ok old) first before → TurnsTo of new result first now

pub record Ends (old new : Opened) (result : Result Unit OpenRefusal) (before now : Contents) : Type 0 where
  pub ends : (of : List ℕ) (first : Contents) → Reopens IsUnderWay of (Ok old) first before → EndsAt of new result first now

-- some turns
pub record Goes (old new : Opened) (before now : Contents) : Type 0 where
  pub goes : (of : List ℕ) (first : Contents) → Reopens IsUnderWay of (Ok old) first before → Reopens IsUnderWay of (Ok new) first now
