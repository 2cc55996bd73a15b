-- What a disk tells: its files now, and as they were at each earlier moment.
use Rattle.std.specs.Prelude.{◌≡◌, ℕ, ◌<◌, ◌≤◌, List, length, get_or, Option}
use Rattle.sheet_outside.specs.Crash.{File, Leaves}

-- the file of each name
abbrev pub Files : Type 0
Files = List ℕ → Option File

-- The files before each call, those of the first call first; the files now; and the name of the last `open`. A call counts as one
-- moment, so the k-th moment is that after k calls.
pub record Contents : Type 0 where
  pub past : List Files
  pub now : Files
  pub name : List ℕ

-- the files at the k-th moment, and as they are now from the last one on
abbrev pub files_at : Contents → ℕ → Files
files_at disk k = get_or disk.past k disk.now

-- what a crash now may leave of the file of this name
abbrev pub MayLeave : Contents → List ℕ → Option (List ℕ) → Type 0
MayLeave disk name left = Leaves (disk.now name) left

-- what a crash at some moment from the t-th on may have left of the file of this name
abbrev pub MayHaveLeft : Contents → ℕ → List ℕ → Option (List ℕ) → Type 0
MayHaveLeft disk t name left = (k : ℕ) × (t ≤ k) × Leaves (files_at disk k name) left

-- At each moment from `before` on the files have P. What was earlier stands.
pub record Throughout (P : Files → Type 0) (before now : Contents) : Type 0 where
  pub later : length before.past ≤ length now.past
  pub each : (k : ℕ) → length before.past ≤ k → P (files_at now k)
  pub earlier : (k : ℕ) → k < length before.past → files_at now k ≡ files_at before k
