-- What a disk in memory started with, the calls on it, and what it holds by them.
use Rattle.std.specs.Prelude.{◌≡◌, ℕ, Bool, true, false, List, [], ◌∷◌, ◌++◌, Option, Some, None, option_map, bytes_eq, if◌then◌else◌, fold}
use Rattle.sheet_outside.specs.Crash.{File, Range, made, at_rest, range_of, wrote, synced}
use Rattle.sheet_outside.specs.Moments.{Files, Contents}
use Rattle.sheet_outside_disks.specs.declared.files.Named.{Named as TheNamed}
use Rattle.sheet_outside_disks.specs.declared.replay.Range.{Range as TheRange}
use Rattle.sheet_outside_disks.specs.declared.event.Event.{Event}
use Rattle.sheet_outside_disks.specs.declared.event.Event.TheVariants.{Opened, Wrote, Spoilt, Synced, Looked}

-- a name and bytes
pub record Named : Type 0 where
  pub name : List ℕ
  pub bytes : List ℕ

-- as it is stored
abbrev pub named : TheNamed → Named
named n = record { name = n.name.items; bytes = n.bytes.items }

-- the bytes of the first entry of this name
abbrev pub found : List Named → List ℕ → Option (List ℕ)
found [] name = None
found (n ∷ ns) name = if bytes_eq n.name name then Some n.bytes else found ns name

-- A call: an `open`, and whether it answered true; a write; a write that failed; a sync; or one that changed nothing.
pub data Call : Type 0 where
  opens : List ℕ → Bool → Call
  writes : ℕ → List ℕ → Call
  spoils : ℕ → List ℕ → Call
  syncs : Call
  looks : Call

-- a call, as it is noted
abbrev pub call_of : Event → Call
call_of (Opened name found) = opens name.items found
call_of (Wrote place piece) = writes place piece.items
call_of (Spoilt place piece) = spoils place piece.items
call_of Synced = syncs
call_of Looked = looks

-- a range, as it is stored
abbrev pub range : TheRange → Range
range r = record { place = r.place; count = r.count }

-- a file after a failed write of this piece, which leaves what a read gives
abbrev pub spoilt : ℕ → List ℕ → File → File
spoilt place piece file = record { seen = file.seen; settled = file.settled; written = file.written ++ range_of place piece }

-- a file that an `open` found or made
abbrev pub is_made : Option File → Option File
is_made None = Some made
is_made (Some file) = Some file

-- what a call makes of the file that it speaks of
abbrev pub changed : Call → Option File → Option File
changed (opens name true) file = is_made file
changed (opens name false) file = file
changed (writes place piece) file = option_map (wrote place piece) file
changed (spoils place piece) file = option_map (spoilt place piece) file
changed syncs file = option_map synced file
changed looks file = file

-- whether the file of this name is the open one after a call, by whether it was before
abbrev pub here_after : Call → List ℕ → Bool → Bool
here_after (opens opened found) name here = bytes_eq name opened
here_after (writes place piece) name here = here
here_after (spoils place piece) name here = here
here_after syncs name here = here
here_after looks name here = here

-- the files, with this done to the one of this name
abbrev pub with_file : List ℕ → (Option File → Option File) → Files → Files
with_file name f files = λ other. if bytes_eq other name then f (files other) else files other

-- the name of the last `open` after a call
abbrev pub name_after : Call → List ℕ → List ℕ
name_after (opens name found) last = name
name_after (writes place piece) last = last
name_after (spoils place piece) last = last
name_after syncs last = last
name_after looks last = last

-- the files after a call
abbrev pub files_after : Call → List ℕ → Files → Files
files_after (opens name true) last files = with_file name is_made files
files_after (opens name false) last files = files
files_after (writes place piece) last files = with_file last (option_map (wrote place piece)) files
files_after (spoils place piece) last files = with_file last (option_map (spoilt place piece)) files
files_after syncs last files = with_file last (option_map synced) files
files_after looks last files = files

-- one call more
abbrev pub turned : Contents → Call → Contents
turned disk call = record { past = disk.past ++ disk.now ∷ []; now = files_after call disk.name disk.now; name = name_after call disk.name }

-- whether the last `open` answered true
abbrev pub open_after : Call → Bool → Bool
open_after (opens name found) is_open = found
open_after (writes place piece) is_open = is_open
open_after (spoils place piece) is_open = is_open
open_after syncs is_open = is_open
open_after looks is_open = is_open

-- the contents of a disk, and whether the last `open` answered true
pub record State : Type 0 where
  pub disk : Contents
  pub is_open : Bool

abbrev pub step : State → Call → State
step state call = record { disk = turned state.disk call; is_open = open_after call state.is_open }

-- before any call: the files of these names, all of them on the disk
abbrev pub at_start : List Named → State
at_start start = record { disk = record { past = []; now = λ name. option_map at_rest (found start name); name = [] }; is_open = false }

-- after these calls
abbrev pub state : List Named → List Call → State
state start calls = fold step (at_start start) calls

-- What a disk in memory is seen as: what it started with, the calls since, whether the last `open` answered true, and whether it still
-- tells its contents.
pub record Drive : Type 0 where
  pub start : List Named
  pub calls : List Call
  pub is_open : Bool
  pub tells : Bool

-- a disk on which nothing was called
abbrev pub new_drive : List Named → Drive
new_drive start = record { start = start; calls = []; is_open = false; tells = true }

-- what it tells
abbrev pub told : Drive → Option Contents
told drive = if drive.tells then Some (state drive.start drive.calls).disk else None

-- where it tells, whether a file is open, and what a read gives of it
pub record IsCurrent (drive : Drive) (current : List ℕ) : Type 0 where
  pub is_open : drive.is_open ≡ (state drive.start drive.calls).is_open
  pub seen : drive.is_open ≡ true → (file : File) → (state drive.start drive.calls).disk.now (state drive.start drive.calls).disk.name ≡ Some file → file.seen ≡ current

-- what a read gives of each file is as it was
abbrev pub ReadsSame : Contents → Contents → Type 0
ReadsSame before now = (name : List ℕ) → option_map (λ f. f.seen) (now.now name) ≡ option_map (λ f. f.seen) (before.now name)

-- the same disk, which may tell its contents no longer
pub record IsSameOrSilent (before now : Drive) : Type 0 where
  pub start : now.start ≡ before.start
  pub calls : now.calls ≡ before.calls
  pub is_open : now.is_open ≡ before.is_open
  pub tells : now.tells ≡ true → before.tells ≡ true

-- the name of the last `open`, where it answered true
abbrev pub IsLastOpen : State → Option (List ℕ) → Type 0
IsLastOpen state None = state.is_open ≡ false
IsLastOpen state (Some name) = (state.is_open ≡ true) × (state.disk.name ≡ name)
