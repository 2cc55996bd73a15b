-- What opening a journal comes to.
use Rattle.std.specs.Prelude.{◌≡◌, ℕ, ◌+◌, ◌≤◌, List, [], ◌∷◌, ◌++◌, length, Option, Some, None, Result, Ok, Err}
use Rattle.sheet_outside.specs.Causes.{Rose}
use Rattle.sheet_outside.specs.Crash.{File, at_rest}
use Rattle.sheet_outside.specs.Moments.{Contents}
use Rattle.sheet_journal.specs.declared.journal.JournalRefusal.TheVariants.{DiskFault, AlreadyThere, NotAJournal, TornLayout}
use Rattle.sheet_journal.specs.declared.journal.JournalRefusal.TheVariants.{NoMemory as NoMemoryToRead}
use Rattle.sheet_journal.specs.Layout.{Entry, Reaches}
use Rattle.sheet_journal.specs.Journal.{Journal, IsReady}
use Rattle.sheet_journal.specs.JournalCalls.{Keeps, IsSameOrSynced, IsNoJournal, IsCutShort}
use Rattle.sheet_machine_laws.specs.Machine.{Holding}
use Rattle.sheet_machine.specs.declared.opening.OpenRefusal.{OpenRefusal}
use Rattle.sheet_machine.specs.declared.opening.OpenRefusal.TheVariants.{Journal as Unread, Damaged, NoMemory}
use Rattle.sheet_machine.specs.Recording.{App}
use Rattle.sheet_machine.specs.Recovering.{Recovers, AreRecovered}

-- the file was there with these bytes, and all of them are on the disk now
pub record IsRead (bytes : List ℕ) (before now : Option File) : Type 0 where
  pub was : File
  pub there : before ≡ Some was
  pub seen : was.seen ≡ bytes
  pub is : now ≡ Some (at_rest bytes)

-- The file as read is a journal of records from which this is recovered, and the next record goes behind them.
pub record IsRecovered (held : Holding) (place : ℕ) (before now : Option File) : Type 0 where
  pub entries : List Entry
  pub recovers : Recovers entries held
  pub ready : IsReady now entries place
  pub read : IsRead ready.bytes before now

-- The file as read begins with so many records. The last of them can't be read, or isn't accepted at its place, and it is the first such.
pub record IsDamaged (k : ℕ) (before now : Option File) : Type 0 where
  pub bytes : List ℕ
  pub read : IsRead bytes before now
  pub front : List Entry
  pub bad : Entry
  pub place : ℕ
  pub reaches : Reaches bytes (front ++ bad ∷ []) place
  pub count : k ≡ length front + 1
  pub good : AreRecovered front
  pub not : AreRecovered (front ++ bad ∷ []) → ⊥

-- The file as read begins with records from which something is recovered, and the one behind them, at this place, isn't whole.
pub record IsTornBehind (at : ℕ) (before now : Option File) : Type 0 where
  pub bytes : List ℕ
  pub read : IsRead bytes before now
  pub front : List Entry
  pub reaches : Reaches bytes front at
  pub good : AreRecovered front
  pub cut : IsCutShort now at

-- why nothing was opened; the disk's faults and want of memory are told of elsewhere
abbrev pub TellsWhy : OpenRefusal → Option File → Option File → Type 0
TellsWhy (Unread DiskFault) before now = Unit {0}
TellsWhy (Unread AlreadyThere) before now = ⊥
TellsWhy (Unread (NotAJournal count)) before now = IsNoJournal count before
TellsWhy (Unread (TornLayout at)) before now = IsTornBehind at before now
TellsWhy (Unread NoMemoryToRead) before now = ⊥
TellsWhy (Damaged k) before now = IsDamaged k before now
TellsWhy NoMemory before now = Unit {0}

-- what was opened has P, or it is told why nothing was
abbrev pub OpensAs : {T : Type 0} → (T → Option File → Option File → Type 0) → Result T OpenRefusal → Option File → Option File → Type 0
OpensAs P (Ok t) before now = P t before now
OpensAs P (Err refusal) before now = TellsWhy refusal before now

-- Opening a file of this name. No file changes, but that all of this one may be on the disk then.
pub record Reopens {T : Type 0} (P : T → Option File → Option File → Type 0) (of : List ℕ) (result : Result T OpenRefusal) (before now : Contents) : Type 0 where
  pub crash : Keeps of (IsSameOrSynced (before.now of)) before now
  pub answer : OpensAs P result (before.now of) (now.now of)

-- what an App with a journal holds is recovered from the file
abbrev pub IsRecoveredApp : App → Option File → Option File → Type 0
IsRecoveredApp a before now = (journal : Journal) → a.journal ≡ Some journal → IsRecovered a.machine.held journal.place before now

-- an App with a journal, in which nothing is in doubt
pub record IsSureApp (a : App) : Type 0 where
  pub journal : Journal
  pub has : a.journal ≡ Some journal
  pub sure : a.machine.doubt ≡ None
  pub decided : journal.doubt ≡ None

-- want of memory is always a refusal of its own
abbrev pub IsOpenRefusal : {T : Type 0} → Result T OpenRefusal → Type 0
IsOpenRefusal result = result ≡ Err (Unread NoMemoryToRead) → ⊥

-- a fault of the disk is told only where its count rose, and the count never falls
pub record HasOpenCause {T : Type 0} (before now : ℕ) (result : Result T OpenRefusal) : Type 0 where
  pub later : before ≤ now
  pub failed : result ≡ Err (Unread DiskFault) → Rose before now
