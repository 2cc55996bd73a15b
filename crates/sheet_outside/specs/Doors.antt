-- Connections in memory, as a listener sees them.
use Rattle.std.specs.Prelude.{◌≡◌, ℕ, List, [], Option, Some, None}
use Rattle.sheet_outside.specs.Talk.{Talk, new_talk, Finished, Door}
use Rattle.sheet_outside.specs.Memory.{Calls}

-- nothing was called on it yet
abbrev pub IsUnused : Option Talk → Type 0
IsUnused None = ⊥
IsUnused (Some talk) = talk ≡ new_talk talk.left

-- all that it will bring
abbrev pub bytes_of : Option Talk → List ℕ
bytes_of None = []
bytes_of (Some talk) = talk.left

-- what it told at its end
abbrev pub finished_of : Option Talk → Finished
finished_of None = record { talk = new_talk []; receive_faults = 0; send_faults = 0 }
finished_of (Some talk) = record { talk = talk; receive_faults = 0; send_faults = 0 }

-- a connection of which some calls fail: what it tells, its calls, and how often receiving and sending failed
pub record Wire : Type 0 where
  pub told : Option Talk
  pub calls : Calls
  pub receive_faults : ℕ
  pub send_faults : ℕ

-- nothing was called on it yet, and nothing failed
abbrev pub IsFresh : Wire → Type 0
IsFresh w = IsUnused w.told × (w.receive_faults ≡ 0) × (w.send_faults ≡ 0)

-- all that it will bring
abbrev pub coming_of : Wire → List ℕ
coming_of w = bytes_of w.told

abbrev ended_as : ℕ → ℕ → Option Talk → Finished
ended_as r s None = record { talk = new_talk []; receive_faults = r; send_faults = s }
ended_as r s (Some talk) = record { talk = talk; receive_faults = r; send_faults = s }

-- what it told at its end
abbrev pub ended_of : Wire → Finished
ended_of w = ended_as w.receive_faults w.send_faults w.told

-- a listener of which some calls fail: what it tells, and its calls
pub record Hall : Type 0 where
  pub told : Option Door
  pub calls : Calls
