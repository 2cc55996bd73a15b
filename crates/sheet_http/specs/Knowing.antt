-- What a feed knows of the bytes that it holds.
use Rattle.std.specs.Prelude.{◌≡◌, ℕ, ◌<◌, ◌≤◌, List, length, drop, Ok}
use Rattle.httparse.specs.Grammar.{RequestHead}
use Rattle.sheet_http.specs.declared.head.Demand.{Demand}
use Rattle.sheet_http.specs.declared.feed.Known.{Known}
use Rattle.sheet_http.specs.declared.feed.Known.TheVariants.{Open, Asked, Refused}
use Rattle.sheet_http.specs.Heads.{judged_head, asked_in, IsNamePlace}
use Rattle.sheet_http.specs.Stream.{Heads, RefusesFirst, longest_head}
use Rattle.sheet_http.specs.Searching.{IsOpen}

-- a whole head of so many bytes asks for that
pub record IsDemanded (bytes : List ℕ) (d : Demand) (n : ℕ) : Type 0 where
  pub head : RequestHead
  pub heads : Heads bytes head (drop n bytes)
  pub within : n ≤ length bytes
  pub short : n ≤ 8192
  pub asked : judged_head head ≡ Ok (asked_in bytes d)
  pub place : IsNamePlace bytes d.kind d.name
  pub few : d.length ≤ 65536

-- what is known of bytes whose lines were judged up to a place
abbrev pub KnowsUpTo : List ℕ → ℕ → Known → Type 0
KnowsUpTo bytes n Open = IsOpen bytes n
KnowsUpTo bytes n (Asked d m) = IsDemanded bytes d m
KnowsUpTo bytes n (Refused e b) = RefusesFirst bytes e b

-- what is known of bytes all of whose lines were judged
abbrev pub Knows : List ℕ → Known → Type 0
Knows bytes Open = IsOpen bytes (length bytes) × (length bytes < longest_head)
Knows bytes (Asked d n) = IsDemanded bytes d n
Knows bytes (Refused e b) = RefusesFirst bytes e b
