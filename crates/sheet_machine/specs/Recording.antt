-- An App with its journal, and what becomes of the journal's file.
use Rattle.std.specs.Prelude.{ℕ, List, ◌++◌, Option, Some, None}
use Rattle.sheet_outside.specs.Crash.{File}
use Rattle.sheet_outside.specs.Moments.{Contents}
use Rattle.sheet_outside.specs.Told.{WhereTold}
use Rattle.sheet_journal.specs.Layout.{Entry, IsImage}
use Rattle.sheet_journal.specs.Journal.{Journal, HasBytes, Whatever, IsReady, IsUndecided}
use Rattle.sheet_journal.specs.JournalCalls.{Keeps}
use Rattle.sheet_requests.specs.declared.request.Request.{Request}
use Rattle.sheet_requests.specs.declared.reply.Reply.{Reply}
use Rattle.sheet_machine_laws.specs.Leading.{Leads, MayStand, in_doubt}
use Rattle.sheet_machine_laws.specs.Machine.{Doubt, Machine}
use Rattle.sheet_machine_laws.specs.Step.{Event, taken, Step}
use Rattle.sheet_machine.specs.Recovering.{entry_of, entries_of}

-- what an App is seen as
pub record App : Type 0 where
  pub machine : Machine
  pub journal : Option Journal

-- where a journal's next record goes, and what is in doubt there
pub record Spot : Type 0 where
  pub place : ℕ
  pub doubt : Option Doubt

-- the file is a journal of these records, and perhaps of that of the line in doubt
abbrev pub holds : ℕ → Option Doubt → List Entry → Option File → Type 0
holds place None entries file = IsReady file entries place
holds place (Some d) entries file = Whatever (HasBytes (IsUndecided entries (entry_of d.line) place)) file

abbrev pub Holds : Spot → List Entry → Option File → Type 0
Holds spot entries file = holds spot.place spot.doubt entries file

-- the bytes are a journal of these records, and of those that may stand behind them at a moment of some events
pub record IsMoment (entries : List Entry) (events : List Event) (bytes : List ℕ) : Type 0 where
  pub lines : List (List ℕ)
  pub may : MayStand events lines
  pub image : IsImage bytes (entries ++ entries_of lines)

-- Each crash leaves the journal as it was at a moment of these events, and at the end it has the records of all lines that were taken.
pub record IsRecorded (entries : List Entry) (events : List Event) (from to : Spot) (was is : Contents) : Type 0 where
  pub crash : Keeps was.name (Whatever (HasBytes (IsMoment entries (in_doubt from.doubt ++ events)))) was is
  pub file : Holds to (entries ++ entries_of (taken events)) (is.now was.name)

-- The other files stay. The rest is said where the file is this journal's.
pub record Records (events : List Event) (from to : Spot) (was is : Contents) : Type 0 where
  pub others : Keeps was.name (λ file. Unit {0}) was is
  pub journal : (entries : List Entry) → Holds from entries (was.now was.name) → IsRecorded entries events from to was is

-- where the next record of an App goes
abbrev pub spot_of : Journal → Machine → Spot
spot_of j m = record { place = j.place; doubt = m.doubt }

-- A request and its reply, with a journal: one step, whose events lead from what was held to what is held, and are recorded in the file.
pub record IsAnswered (before : Machine) (was : Journal) (q : Request) (r : Reply) (after : Machine) (is : Journal) (disk later : Option Contents) : Type 0 where
  pub events : List Event
  pub step : Step before q r events after
  pub leads : Leads before.held (in_doubt before.doubt ++ events) after.held
  pub file : WhereTold (Records events (spot_of was before) (spot_of is after)) disk later
