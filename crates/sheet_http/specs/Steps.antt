-- What a feed answers, and laws of steps.
use Rattle.std.specs.Prelude.{◌≡◌, ℕ, ◌+◌, ◌<◌, ◌≤◌, List, ◌++◌, length, drop, slice_range, Bool, Option, Some, None}
use Rattle.sheet_requests.specs.declared.request.Route.{Route}
use Rattle.sheet_http.specs.declared.refusal.HttpRefusal.{HttpRefusal}
use Rattle.sheet_http.specs.Stream.{Event, AsksFirst, RefusesFirst, HasNoStep, StepsOf, Passes}
use Rattle.sheet_http.specs.declared.feed.Step.{Step}
use Rattle.sheet_http.specs.declared.feed.Step.TheVariants.{More, Request, Refused}

-- the bytes that are held, and the places of the body of the request that was told last and isn't done
pub record Held : Type 0 where
  pub bytes : List ℕ
  pub told : Option (ℕ × ℕ)

-- the most bytes that are held: a head and a body
abbrev pub room : ℕ
room = 73728

-- the places of a body are in order and within so many bytes
abbrev pub AreWithin : Option (ℕ × ℕ) → ℕ → Type 0
AreWithin None n = Unit {0}
AreWithin (Some (from, until)) n = (from ≤ until) × (until ≤ n)

-- what bytes begin with
abbrev pub Tells : List ℕ → Step → Type 0
Tells bytes More = HasNoStep bytes × (length bytes < room)
Tells bytes (Request route from until close) =
    (from ≤ until) × (until ≤ length bytes) × AsksFirst bytes route (slice_range bytes from until) close (drop until bytes)
Tells bytes (Refused e b) = RefusesFirst bytes e b

-- the places of a request's body
abbrev pub places_of : Step → Option (ℕ × ℕ)
places_of More = None
places_of (Request route from until close) = Some (from, until)
places_of (Refused e b) = None

-- the same, with the places told
abbrev pub Gives : List ℕ → Option (ℕ × ℕ) → Step → Type 0
Gives bytes told step = Tells bytes step × (told ≡ places_of step)

-- steps stay where more bytes come, and bytes have one list of steps
pub record StepsStay : Type 0 where
  pub asks : (bytes more : List ℕ) (route : Route) (body rest : List ℕ) (close : Bool) → AsksFirst bytes route body close rest
      → AsksFirst (bytes ++ more) route body close (rest ++ more)
  pub refuses : (bytes more : List ℕ) (e : HttpRefusal) (b : Bool) → RefusesFirst bytes e b → RefusesFirst (bytes ++ more) e b
  pub passes : (bytes more rest : List ℕ) (steps : List Event) → Passes bytes steps rest → Passes (bytes ++ more) steps (rest ++ more)

-- a connection's bytes have one list of steps
abbrev pub StreamIsOne : Type 0
StreamIsOne = (k : ℕ) (bytes : List ℕ) (xs ys : List Event) → StepsOf k bytes xs → StepsOf k bytes ys → xs ≡ ys

-- the steps behind some requests that don't close are the steps behind them of the whole
abbrev pub PassedSteps : Type 0
PassedSteps = (k : ℕ) (bytes rest : List ℕ) (xs ys : List Event) → Passes bytes xs rest → StepsOf k rest ys → StepsOf (length xs + k) bytes (xs ++ ys)
