-- Counting the bytes of texts, up to the greatest number of 64 bits.
use Rattle.std.specs.Prelude.{◌≡◌, ℕ, ◌+◌, ◌-◌, ◌^◌, min, List, length}

-- who had counted so far and then counted the text, too, has counted so far
pub record Counts (before after : ℕ) (text : List ℕ) : Type 0 where
  pub exact : after ≡ min (before + length text) (2 ^ 64 - 1)
