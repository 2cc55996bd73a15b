-- What a whole head asks for.
use Rattle.std.specs.Prelude.{◌≡◌, ℕ, ◌+◌, ◌≤◌, ◌==◌, ◌||◌, ◌&&◌, nat_lt, nat_le, not, List, length, map, codes, Bool, true, false, if◌then◌else◌}
use Rattle.std.specs.Prelude.{bytes_eq, Option, Some, None, Result, Ok, Err}
use Rattle.std.specs.List.{before_first}
use Rattle.std.specs.Str.{is_utf8}
use Rattle.httparse.specs.Grammar.{RequestHead}
use Rattle.httparse.specs.Spans.{name_and_value, span_bytes}
use Rattle.sheet_requests.specs.declared.request.Route.{Route}
use Rattle.sheet_requests.specs.declared.request.Route.TheVariants as route
use Rattle.sheet_http.specs.declared.routes.Kind.{Kind}
use Rattle.sheet_http.specs.declared.routes.Kind.TheVariants as kind
use Rattle.sheet_http.specs.declared.head.Demand.{Demand}
use Rattle.httparse.specs.declared.spans.Span.{Span}
use Rattle.sheet_http.specs.declared.refusal.HttpRefusal.{HttpRefusal}
use Rattle.sheet_http.specs.declared.refusal.HttpRefusal.TheVariants.{HeadTooLong, BadHost, NoRoute, NotPost, Coded}
use Rattle.sheet_http.specs.Paths.{routed}
use Rattle.sheet_http.specs.Fields.{NameAndValue, values_named, says_close, has_host, body_length, is_some_value}

-- the part of a target before the first `?`
abbrev pub path_of : List ℕ → List ℕ
path_of target = before_first (λ b. b == 63) target

-- what a whole head asks for: a route, the length of the body, and whether the connection ends behind it
pub record Asked : Type 0 where
  pub route : Route
  pub length : ℕ
  pub close : Bool

-- a name in a path is UTF-8 of 1 to 63 bytes
abbrev pub is_route_name : List ℕ → Bool
is_route_name name = nat_lt 0 (length name) && nat_le (length name) 63 && is_utf8 name

-- the route of that name, where it is one
abbrev pub named : (List ℕ → Route) → List ℕ → Option Route
named f name = if is_route_name name then Some (f name) else None

-- the route of a kind and a name
abbrev pub route_of : Option (Kind × List ℕ) → Option Route
route_of None = None
route_of (Some (kind.Do, name)) = named route.Do name
route_of (Some (kind.See, name)) = named route.See name
route_of (Some (kind.Reads, name)) = named route.Reads name
route_of (Some (kind.Admit, name)) = Some route.Admit
route_of (Some (kind.Stats, name)) = Some route.Stats

-- the route of a target
abbrev pub route_at : List ℕ → Option Route
route_at target = route_of (routed (path_of target))

-- with the length that the fields give
abbrev asked_behind : Result ℕ HttpRefusal → Route → Bool → Result Asked HttpRefusal
asked_behind (Ok n) r close = Ok (record { route = r; length = n; close = close })
asked_behind (Err e) r close = Err e

-- whether the connection ends: in version 1.0, and where a field says so
abbrev pub closes : ℕ → List NameAndValue → Bool
closes minor fs = (minor == 0) || says_close fs

-- what is judged behind the route
abbrev pub behind_route : List ℕ → ℕ → List NameAndValue → Route → Result Asked HttpRefusal
behind_route method minor fs r =
    if not (bytes_eq method (codes "POST")) then Err NotPost
    else (if is_some_value (values_named (codes "transfer-encoding") fs) then Err Coded
    else asked_behind (body_length (values_named (codes "content-length") fs)) r (closes minor fs))

-- what is judged behind the Host field
abbrev routed_behind : List ℕ → ℕ → List NameAndValue → Option Route → Result Asked HttpRefusal
routed_behind method minor fs None = Err NoRoute
routed_behind method minor fs (Some r) = behind_route method minor fs r

-- the most fields of a head
abbrev pub most_fields : ℕ
most_fields = 64

-- What is asked, or the first refusal: too many fields, Host, route, method, Transfer-Encoding, Content-Length.
unfoldable pub judged : List ℕ → List ℕ → ℕ → List NameAndValue → Result Asked HttpRefusal
judged method target minor fs =
    if nat_lt most_fields (length fs) then Err HeadTooLong
    else (if not (has_host minor (values_named (codes "host") fs)) then Err BadHost else routed_behind method minor fs (route_at target))

-- of a head of the grammar
abbrev pub judged_head : RequestHead → Result Asked HttpRefusal
judged_head h = judged h.method h.target h.minor (map name_and_value h.fields)

-- whether its method is HEAD
abbrev pub is_for_head : RequestHead → Bool
is_for_head h = bytes_eq h.method (codes "HEAD")

-- ---- the same with the name as a place

-- the route of a kind with that name, where it has one
abbrev pub route_from : Kind → List ℕ → Route
route_from kind.Do name = route.Do name
route_from kind.See name = route.See name
route_from kind.Reads name = route.Reads name
route_from kind.Admit name = route.Admit
route_from kind.Stats name = route.Stats

-- whether the routes of a kind have names
abbrev pub has_name : Kind → Bool
has_name kind.Do = true
has_name kind.See = true
has_name kind.Reads = true
has_name kind.Admit = false
has_name kind.Stats = false

-- a name stands there in the bytes, where routes of this kind have one
pub record IsNamePlace (bytes : List ℕ) (k : Kind) (place : Span) : Type 0 where
  pub ordered : place.start ≤ place.end
  pub within : place.end ≤ length bytes
  pub name : has_name k ≡ true → is_route_name (span_bytes bytes place) ≡ true

-- where the name of a target's route stands
abbrev pub FindsRoute : List ℕ → Option (Kind × Span) → Option Route → Type 0
FindsRoute target None defined = defined ≡ None
FindsRoute target (Some (k, place)) defined = (defined ≡ Some (route_from k (span_bytes target place))) × IsNamePlace target k place

-- what is asked, by where the name stands in the bytes
abbrev pub asked_in : List ℕ → Demand → Asked
asked_in bytes d = record { route = route_from d.kind (span_bytes bytes d.name); length = d.length; close = d.close }

-- the same with the name so many bytes further on
abbrev pub shifted : Demand → ℕ → Demand
shifted d n =
    record { kind = d.kind; name = record { start = n + d.name.start; end = n + d.name.end }; length = d.length; close = d.close }

-- what is answered of a head whose target this is
abbrev pub Judges : List ℕ → Result Demand HttpRefusal → Result Asked HttpRefusal → Type 0
Judges target (Ok d) defined = (defined ≡ Ok (asked_in target d)) × IsNamePlace target d.kind d.name × (d.length ≤ 65536)
Judges target (Err e) defined = defined ≡ Err e

-- what is answered of what is judged behind the route
abbrev pub JudgesBehind : Kind → Span → Result Demand HttpRefusal → Result Asked HttpRefusal → Route → Type 0
JudgesBehind k place (Ok d) defined r = (d.kind ≡ k) × (d.name ≡ place) × (d.length ≤ 65536) ×
    (defined ≡ Ok (record { route = r; length = d.length; close = d.close }))
JudgesBehind k place (Err e) defined r = defined ≡ Err e
