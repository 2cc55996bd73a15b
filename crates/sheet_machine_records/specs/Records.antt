-- The payloads of a journal's records.
use Rattle.std.specs.Prelude.{◌≡◌, ℕ, List, ◌∷◌, ◌++◌, length, Option, Some, None}

-- the first record: how many bytes the operator's key has, the key, and the definition
abbrev pub first_payload : List ℕ → List ℕ → List ℕ
first_payload key definition = length key ∷ (key ++ definition)

-- the key and the definition of a first record; none where it is no such record
abbrev pub TellsFirst : List ℕ → Option (List ℕ × List ℕ) → Type 0
TellsFirst payload (Some parts) = payload ≡ first_payload parts.0 parts.1
TellsFirst payload None = (key definition : List ℕ) → payload ≡ first_payload key definition → ⊥
