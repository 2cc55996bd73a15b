-- What is recovered of the journal of an App, after a crash and without one.
use Rattle.std.specs.Prelude.{◌≡◌, ◌⊎◌, ℕ, List, [], ◌∷◌, ◌++◌, Option, Some, Result, Ok, Err, IfOk}
use Rattle.sheet_outside.specs.Crash.{File}
use Rattle.sheet_journal.specs.declared.journal.JournalRefusal.TheVariants.{DiskFault, AlreadyThere, NotAJournal, TornLayout}
use Rattle.sheet_journal.specs.declared.journal.JournalRefusal.TheVariants.{NoMemory as NoMemoryToRead}
use Rattle.sheet_journal.specs.Layout.{Entry, IsImage}
use Rattle.sheet_journal.specs.Journal.{HasBytes, Whatever}
use Rattle.sheet_machine_laws.specs.Leading.{Leads, MayStand}
use Rattle.sheet_machine_laws.specs.Machine.{Holding, Doubt}
use Rattle.sheet_machine_laws.specs.Step.{Event, taken}
use Rattle.sheet_machine.specs.declared.opening.OpenRefusal.{OpenRefusal}
use Rattle.sheet_machine.specs.declared.opening.OpenRefusal.TheVariants.{Journal as Unread, Damaged, NoMemory}
use Rattle.sheet_machine.specs.Opening.{OpensAs, IsRecoveredApp, IsSureApp}
use Rattle.sheet_machine.specs.Recording.{App, holds, IsMoment}
use Rattle.sheet_machine.specs.Recovering.{entry_of, entries_of, GoOn, Recovers}

-- The bytes are a journal of these records and of the lines that stood behind them at a moment of the events: those that were taken up
-- to then, and perhaps one more that was in doubt then. Each of these lines is accepted at its place.
pub record IsFront (entries : List Entry) (events : List Event) (before : Holding) (bytes : List ℕ) : Type 0 where
  pub lines : List (List ℕ)
  pub may : MayStand events lines
  pub last : Holding
  pub goes_on : GoOn before (entries_of lines) last
  pub image : IsImage bytes (entries ++ entries_of lines)
  pub recovers : Recovers (entries ++ entries_of lines) last

-- whatever was left of a journal at a moment of some events
abbrev pub CrashesAreRecovered : Type 0
CrashesAreRecovered =
    (entries : List Entry) (events : List Event) (before after : Holding) (bytes : List ℕ) → Recovers entries before → Leads before events after
    → IsMoment entries events bytes → IsFront entries events before bytes

-- what is held after some events is recovered from the records of all lines that were taken
abbrev pub TakenAreRecovered : Type 0
TakenAreRecovered =
    (entries : List Entry) (events : List Event) (before after : Holding) → Recovers entries before → Leads before events after
    → Recovers (entries ++ entries_of (taken events)) after

-- a journal of these records, and perhaps of that of the line in doubt
abbrev pub IsLast : List Entry → Option Doubt → List ℕ → Type 0
IsLast entries doubt bytes = IsImage bytes entries ⊎ ((d : Doubt) × (doubt ≡ Some d) × IsImage bytes (entries ++ entry_of d.line ∷ []))

-- whatever is read of such a file, and whatever a crash may leave of it, is a journal of all its records
abbrev pub AllStand : Type 0
AllStand =
    (entries : List Entry) (place : ℕ) (doubt : Option Doubt) (file : Option File) → holds place doubt entries file
    → Whatever (HasBytes (IsLast entries doubt)) file

-- this is held, or the disk failed, or there was no memory
abbrev pub OpensWith : Holding → Result App OpenRefusal → Type 0
OpensWith h (Ok a) = a.machine.held ≡ h
OpensWith h (Err (Unread DiskFault)) = Unit {0}
OpensWith h (Err (Unread AlreadyThere)) = ⊥
OpensWith h (Err (Unread (NotAJournal count))) = ⊥
OpensWith h (Err (Unread (TornLayout at))) = ⊥
OpensWith h (Err (Unread NoMemoryToRead)) = ⊥
OpensWith h (Err (Damaged k)) = ⊥
OpensWith h (Err NoMemory) = Unit {0}

-- a file that is a journal of records from which this is recovered is opened with it
abbrev pub RecoveredAreOpened : Type 0
RecoveredAreOpened =
    (file : File) (now : Option File) (entries : List Entry) (h : Holding) (result : Result App OpenRefusal) → IsImage file.seen entries → Recovers entries h
    → OpensAs IsRecoveredApp result (Some file) now → IfOk result IsSureApp → OpensWith h result
