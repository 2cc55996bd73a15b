-- What is told of an input and an output together.
use Rattle.std.specs.Prelude.{◌≡◌, ℕ, List, ◌++◌, Option, Some, None}

-- the bytes that are left of an input, and those that were written to an output
pub record Ends : Type 0 where
  pub left : List ℕ
  pub written : List ℕ

-- both, where both are told
abbrev pub both : Option (List ℕ) → Option (List ℕ) → Option Ends
both (Some left) (Some written) = Some (record { left = left; written = written })
both (Some left) None = None
both None written = None

-- the text begins so
abbrev pub IsFront : List ℕ → List ℕ → Type 0
IsFront front text = (back : List ℕ) × (text ≡ front ++ back)

-- the output gained a front of the text
abbrev pub GainsFront : List ℕ → List ℕ → List ℕ → Type 0
GainsFront text before after = (front : List ℕ) × (after ≡ before ++ front) × IsFront front text
