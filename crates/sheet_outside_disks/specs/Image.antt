-- An image that a crash may leave of the file of a disk in memory.
use Rattle.std.specs.Prelude.{◌≡◌, ◌⊎◌, ℕ, ◌+◌, ◌<◌, ◌≤◌, max, List, [], length, take, get_or, Option, Some, None, if◌then◌else◌, ◌&&◌, nat_le}
use Rattle.sheet_outside.specs.Crash.{File, Range, Within, greatest_end, IsLeft, settled_bytes}
use Rattle.sheet_outside.specs.Memory.{Calls}
use Rattle.sheet_outside.specs.Moments.{files_at}
use Rattle.sheet_outside_disks.specs.Drive.{Drive, state}

-- as long as a crash may leave it, and with this byte at each place where any byte may stand
pub record IsFilled (settled : List ℕ) (written : List Range) (fill : ℕ) (bytes : List ℕ) : Type 0 where
  pub longest : length bytes ≡ max (length settled) (greatest_end written)
  pub filled : (i : ℕ) → i < length bytes → (length settled ≤ i) ⊎ Within written i → get_or bytes i 0 ≡ fill
  pub others : (i : ℕ) → i < length settled → (Within written i → ⊥) → get_or bytes i 0 ≡ get_or settled i 0

-- An image of a file: one that a crash may leave, as above.
pub record IsImageOf (file : File) (fill : ℕ) (bytes : List ℕ) : Type 0 where
  pub left : IsLeft (settled_bytes file.settled) file.written bytes
  pub filled : IsFilled (settled_bytes file.settled) file.written fill bytes

-- the file that was open after this call, where the disk tells, the call was made, and an `open` had answered true
abbrev pub open_at : Drive → ℕ → Option (List ℕ)
open_at drive call =
    if drive.tells && nat_le call (length drive.calls) && (state drive.start (take call drive.calls)).is_open
    then Some (state drive.start (take call drive.calls)).disk.name else None

abbrev pub IsImageAt : Drive → ℕ → ℕ → Option (List ℕ) → List ℕ → Type 0
IsImageAt drive call fill None bytes = bytes ≡ []
IsImageAt drive call fill (Some name) bytes = (file : File) × (files_at (state drive.start drive.calls).disk call name ≡ Some file) × IsImageOf file fill bytes

-- the same bytes, with this one in a range and between their end and the range
pub record IsCovered (before : List ℕ) (place count fill : ℕ) (now : List ℕ) : Type 0 where
  pub long : length now ≡ max (length before) (place + count)
  pub filled : (i : ℕ) → i < length now → (length before ≤ i) ⊎ ((place ≤ i) × (i < place + count)) → get_or now i 0 ≡ fill
  pub others : (i : ℕ) → i < length before → ((place ≤ i) × (i < place + count) → ⊥) → get_or now i 0 ≡ get_or before i 0

-- What a disk of which some calls fail is seen as: the disk, and the calls.
pub record Memory : Type 0 where
  pub drive : Drive
  pub calls : Calls
