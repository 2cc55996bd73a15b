-- How many bytes a feed waits for.
use Rattle.std.specs.Prelude.{ℕ, ◌+◌, List}
use Rattle.sheet_http.specs.declared.feed.Known.{Known}
use Rattle.sheet_http.specs.declared.feed.Known.TheVariants.{Open, Asked, Refused}

-- bytes, and how many there are to be
pub record Awaiting : Type 0 where
  pub bytes : List ℕ
  pub wanted : ℕ

-- how many bytes there are to be before a step can come, where so many were judged: one more, where no head is known; those of the head
-- and the body, where a head asks for something
abbrev pub bytes_wanted : Known → ℕ → ℕ
bytes_wanted Open count = count + 1
bytes_wanted (Asked d n) count = n + d.length
bytes_wanted (Refused e b) count = 0
