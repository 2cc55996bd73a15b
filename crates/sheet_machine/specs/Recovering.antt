-- What the records of a journal stand for.
use Rattle.std.specs.Prelude.{◌≡◌, ◌⊎◌, ℕ, List, [], ◌∷◌, map}
use Rattle.sheet_journal.specs.Layout.{Entry}
use Rattle.sheet_machine_records.specs.Records.{first_payload}
use Rattle.sheet_machine_laws.specs.Leading.{Accepts}
use Rattle.sheet_machine_laws.specs.Machine.{Holding}
use Rattle.sheet_machine_laws.specs.Ranges.{IsKey}
use Rattle.sheet_machine.specs.StartsFrom.{StartsFrom}

-- the record of a request line
abbrev pub entry_of : List ℕ → Entry
entry_of line = record { kind = 1; payload = line }

abbrev pub entries_of : List (List ℕ) → List Entry
entries_of lines = map entry_of lines

-- the first record has kind 0: it tells the operator's key and a definition, and this is the start of the definition's book
pub record Begins (first : Entry) (h : Holding) : Type 0 where
  pub kind : first.kind ≡ 0
  pub key : List ℕ
  pub definition : List ℕ
  pub payload : first.payload ≡ first_payload key definition
  pub is_key : IsKey key
  pub starts : StartsFrom definition key h

-- each further one has kind 1: it is a line that holds a request which is accepted at its place
pub record GoesOn (h : Holding) (entry : Entry) (after : Holding) : Type 0 where
  pub kind : entry.kind ≡ 1
  pub accepts : Accepts h entry.payload after

-- what is held after further records
abbrev pub GoOn : Holding → List Entry → Holding → Type 0
GoOn h [] last = last ≡ h
GoOn h (entry ∷ entries) last = (after : Holding) × GoesOn h entry after × GoOn after entries last

-- what is held after the records of a journal: none where one of them can't be read, or isn't accepted at its place
abbrev pub Recovers : List Entry → Holding → Type 0
Recovers [] last = ⊥
Recovers (first ∷ entries) last = (h : Holding) × Begins first h × GoOn h entries last

-- there are no records, or something is held after them
abbrev pub AreRecovered : List Entry → Type 0
AreRecovered entries = (entries ≡ []) ⊎ ((h : Holding) × Recovers entries h)
