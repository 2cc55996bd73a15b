-- What a reader of lines has read ahead.
use Rattle.std.specs.Prelude.{ℕ, List, ◌++◌, Option, option_map}

-- bytes that were taken from the source and aren't used yet, and how many were used before them
pub record Unread : Type 0 where
  pub ahead : List ℕ
  pub used : ℕ

-- the bytes that are still to be used, where the source tells what it has left
abbrev pub rest : Unread → Option (List ℕ) → Option (List ℕ)
rest unread left = option_map (λ bytes. unread.ahead ++ bytes) left
