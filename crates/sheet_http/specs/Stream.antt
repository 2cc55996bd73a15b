-- The steps of a connection, over all of its bytes.
use Rattle.std.specs.Prelude.{◌≡◌, ℕ, zero, suc, ◌+◌, ◌≤◌, List, [], ◌∷◌, ◌++◌, length, take, Bool, true, false, Ok, Err}
use Rattle.httparse.specs.Grammar.{RequestHead, print_request, ReadsRequest, HasNoRequest, NeverHasRequest}
use Rattle.sheet_requests.specs.declared.request.Route.{Route}
use Rattle.sheet_http.specs.declared.refusal.HttpRefusal.{HttpRefusal}
use Rattle.sheet_http.specs.declared.refusal.HttpRefusal.TheVariants.{NotHttp, HeadTooLong}
use Rattle.sheet_http.specs.Heads.{judged_head, is_for_head}

abbrev pub longest_head : ℕ
longest_head = 8192

-- a step: a request, with its route, its body, and whether the connection ends behind it; or a refusal, and whether a whole head was
-- read whose method is HEAD
pub data Event : Type 0 where
  Asks : Route → List ℕ → Bool → Event
  Refuses : HttpRefusal → Bool → Event

-- the bytes begin with this head, which isn't too long
pub record Heads (bytes : List ℕ) (h : RequestHead) (behind : List ℕ) : Type 0 where
  pub reads : ReadsRequest bytes h behind
  pub short : length (print_request h) ≤ longest_head

-- the first so many bytes end in a line feed, and nothing that follows makes them a head
pub record IsHopeless (bytes : List ℕ) (n : ℕ) : Type 0 where
  pub front : List ℕ
  pub behind : List ℕ
  pub feed : bytes ≡ (front ++ 10 ∷ []) ++ behind
  pub place : n ≡ length front + 1
  pub short : n ≤ longest_head
  pub never : NeverHasRequest (front ++ 10 ∷ [])

-- the bytes begin with a whole request, and this is left behind it
pub record AsksFirst (bytes : List ℕ) (route : Route) (body : List ℕ) (close : Bool) (rest : List ℕ) : Type 0 where
  pub head : RequestHead
  pub heads : Heads bytes head (body ++ rest)
  pub asked : judged_head head ≡ Ok (record { route = route; length = length body; close = close })

-- the bytes begin with what is refused
pub data RefusesFirst (bytes : List ℕ) : HttpRefusal → Bool → Type 0 where
  -- a whole head asks for what isn't served
  head : (h : RequestHead) (behind : List ℕ) (e : HttpRefusal) → Heads bytes h behind → judged_head h ≡ Err e → RefusesFirst bytes e (is_for_head h)
  -- at the first line feed behind which there is no hope
  hopeless : (n : ℕ) → IsHopeless bytes n → ((m : ℕ) → IsHopeless bytes m → n ≤ m) → RefusesFirst bytes (NotHttp n) false
  -- no head ends in the first 8,192 bytes, and no line feed there is without hope
  long : longest_head ≤ length bytes → HasNoRequest (take longest_head bytes) → ((n : ℕ) → IsHopeless bytes n → ⊥) → RefusesFirst bytes HeadTooLong false

-- the bytes are no whole step
pub record HasNoStep (bytes : List ℕ) : Type 0 where
  pub none_asked : (route : Route) (body : List ℕ) (close : Bool) (rest : List ℕ) → AsksFirst bytes route body close rest → ⊥
  pub none_refused : (e : HttpRefusal) (b : Bool) → RefusesFirst bytes e b → ⊥

abbrev pub most_steps : ℕ
most_steps = 1000

-- The steps, at most so many. They end behind a refusal and behind a request that closes. A rest that is no whole step gives none.
pub data StepsOf : ℕ → List ℕ → List Event → Type 0 where
  full : (bytes : List ℕ) → StepsOf zero bytes []
  waits : (k : ℕ) (bytes : List ℕ) → HasNoStep bytes → StepsOf (suc k) bytes []
  refused : (k : ℕ) (bytes : List ℕ) (e : HttpRefusal) (b : Bool) → RefusesFirst bytes e b → StepsOf (suc k) bytes (Refuses e b ∷ [])
  closes : (k : ℕ) (bytes : List ℕ) (route : Route) (body rest : List ℕ) → AsksFirst bytes route body true rest
      → StepsOf (suc k) bytes (Asks route body true ∷ [])
  goes_on : (k : ℕ) (bytes : List ℕ) (route : Route) (body rest : List ℕ) (more : List Event)
      → AsksFirst bytes route body false rest → StepsOf k rest more → StepsOf (suc k) bytes (Asks route body false ∷ more)

-- the steps of a connection's bytes
abbrev pub Stream : List ℕ → List Event → Type 0
Stream bytes steps = StepsOf most_steps bytes steps

-- so many requests that don't close stand first, and this is left behind them
pub data Passes : List ℕ → List Event → List ℕ → Type 0 where
  none : (bytes : List ℕ) → Passes bytes [] bytes
  one_more : (bytes middle rest : List ℕ) (steps : List Event) (route : Route) (body : List ℕ)
      → Passes bytes steps middle → AsksFirst middle route body false rest → Passes bytes (steps ++ Asks route body false ∷ []) rest
