-- How many bytes are lacking to a step.
use Rattle.std.specs.Prelude.{◌≡◌, ℕ, ◌-◌, ◌<◌, List, ◌++◌, length, Bool, Ok}
use Rattle.httparse.specs.Grammar.{RequestHead}
use Rattle.sheet_http.specs.declared.refusal.HttpRefusal.{HttpRefusal}
use Rattle.sheet_http.specs.Heads.{Asked, judged_head}
use Rattle.sheet_http.specs.Stream.{Heads, RefusesFirst, HasNoStep}

-- how many bytes are lacking
pub data Lacks (bytes : List ℕ) : ℕ → Type 0 where
  -- one at least, where no head is whole
  head : HasNoStep bytes → ((h : RequestHead) (behind : List ℕ) → Heads bytes h behind → ⊥) → Lacks bytes 1
  -- what of the body isn't there, where a head asks for something
  body : (h : RequestHead) (behind : List ℕ) (asked : Asked) → Heads bytes h behind → judged_head h ≡ Ok asked → Lacks bytes (asked.length - length behind)
  -- none, where the bytes are refused
  refused : (e : HttpRefusal) (b : Bool) → RefusesFirst bytes e b → Lacks bytes 0

-- there is one such number, and fewer bytes more make no step
pub record LackingIsOne : Type 0 where
  pub one : (bytes : List ℕ) (n m : ℕ) → Lacks bytes n → Lacks bytes m → n ≡ m
  pub waits : (bytes more : List ℕ) (n : ℕ) → Lacks bytes n → length more < n → HasNoStep (bytes ++ more)
