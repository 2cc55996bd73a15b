-- What the bytes of a request say, by the route that they came on.
use Rattle.std.specs.Prelude.{◌≡◌, ℕ, ℤ, ◌==◌, ◌&&◌, nat_lt, nat_le, not, List, [], ◌∷◌, length, codes, Option, Some, None, Bool, true, false}
use Rattle.std.specs.Prelude.{if◌then◌else◌, Result, Ok, Err, IsUtf8, count_by, bytes_eq, is_some}
use Rattle.std.specs.List.{list_all, list_any}
use Rattle.serde_json.specs.Data.{Data, Num, unsigned, negative, float, Items, item, no_items, Members, member, no_members, object, null, boolean}
use Rattle.serde_json.specs.Data.{number, string, array}
use Rattle.serde_json.specs.Read.{read}
use Rattle.serde_json.specs.Find.{get, get_member, as_i64}
use Rattle.sheet_values.specs.declared.value.Value.{Value}
use Rattle.sheet_values.specs.declared.value.Value.TheVariants as value
use Rattle.sheet_requests.specs.declared.request.Route.{Route}
use Rattle.sheet_requests.specs.declared.request.Route.TheVariants as route
use Rattle.sheet_requests.specs.declared.request.Request.{Request}
use Rattle.sheet_requests.specs.declared.request.Request.TheVariants as request
use Rattle.sheet_requests.specs.declared.request.WireRefusal.{WireRefusal}
use Rattle.sheet_requests.specs.declared.request.WireRefusal.TheVariants.{NotJson, BadShape, NumberOutside, TextTooLong, LaterForm, NoMemory}

-- the bytes are the JSON text of this data
abbrev pub Says : List ℕ → Data → Type 0
Says bytes d = IsUtf8 bytes × (read bytes ≡ Some d)

-- goes on from what was read; a refusal stays
infixl 10 ◌>>=◌
abbrev pub ◌>>=◌ : {A B : Type 0} → Result A WireRefusal → (A → Result B WireRefusal) → Result B WireRefusal
(Ok x) >>= f = f x
(Err e) >>= f = Err e

-- a byte of a key, from 0x21 to 0x7E
abbrev pub is_key_byte : ℕ → Bool
is_key_byte b = nat_le 0x21 b && nat_le b 0x7e

-- a key has 1 to 64 of them
abbrev pub is_key : List ℕ → Bool
is_key s = nat_lt 0 (length s) && nat_le (length s) 64 && list_all is_key_byte s

-- a name has 1 to 63 bytes
abbrev pub is_name : List ℕ → Bool
is_name s = nat_lt 0 (length s) && nat_le (length s) 63

-- the greatest number of a request
abbrev pub greatest : ℕ
greatest = 9223372036854775807

-- a text that passes the test, in a field
abbrev passing : (List ℕ → Bool) → List ℕ → Option Data → Result (List ℕ) WireRefusal
passing test f (Some (string s)) = if test s then Ok s else Err (BadShape f)
passing test f (Some null) = Err (BadShape f)
passing test f (Some (boolean b)) = Err (BadShape f)
passing test f (Some (number n)) = Err (BadShape f)
passing test f (Some (array ds)) = Err (BadShape f)
passing test f (Some (object ms)) = Err (BadShape f)
passing test f None = Err (BadShape f)

-- a key in a field
abbrev pub key_in : List ℕ → Data → Result (List ℕ) WireRefusal
key_in f d = passing is_key f (get f d)

-- a name in a field
abbrev pub name_in : List ℕ → Data → Result (List ℕ) WireRefusal
name_in f d = passing is_name f (get f d)

-- a whole number from the least on
abbrev pub number_from : ℕ → List ℕ → Num → Result ℕ WireRefusal
number_from least f (unsigned n) = if nat_le least n && nat_le n greatest then Ok n else Err (NumberOutside f)
number_from least f (negative z) = Err (NumberOutside f)
number_from least f (float x) = Err (NumberOutside f)

-- a number where there is one
abbrev numbered : ℕ → List ℕ → Option Data → Result ℕ WireRefusal
numbered least f (Some (number n)) = number_from least f n
numbered least f (Some null) = Err (BadShape f)
numbered least f (Some (boolean b)) = Err (BadShape f)
numbered least f (Some (string s)) = Err (BadShape f)
numbered least f (Some (array ds)) = Err (BadShape f)
numbered least f (Some (object ms)) = Err (BadShape f)
numbered least f None = Err (BadShape f)

-- a number in a field, from the least on
abbrev pub number_in : ℕ → List ℕ → Data → Result ℕ WireRefusal
number_in least f d = numbered least f (get f d)

-- the field of the arguments
abbrev with_name : List ℕ
with_name = codes "with"

-- a number of 64 bits with a sign
abbrev integer : Option ℤ → Result Value WireRefusal
integer None = Err (NumberOutside with_name)
integer (Some z) = Ok (value.Number z)

-- `{"object":N}`
abbrev pub object_value : Members → Result Value WireRefusal
object_value no_members = Err (BadShape with_name)
object_value (member name d (member other e more)) = Err (BadShape with_name)
object_value (member name d no_members) =
    if bytes_eq name (codes "object") then numbered 0 with_name (Some d) >>= (λ n. Ok (value.Object n)) else Err (BadShape with_name)

-- an argument
abbrev pub value_of : Data → Result Value WireRefusal
value_of null = Err (BadShape with_name)
value_of (boolean b) = Ok (value.Truth b)
value_of (number n) = integer (as_i64 n)
value_of (string s) = if nat_le (length s) 1000 then Ok (value.Text s) else Err (TextTooLong with_name)
value_of (array ds) = Err (BadShape with_name)
value_of (object ms) = object_value ms

-- the arguments, in order; the first that isn't one is refused
abbrev pub values_of : Items → Result (List Value) WireRefusal
values_of no_items = Ok []
values_of (item d ds) = value_of d >>= (λ v. values_of ds >>= (λ vs. Ok (v ∷ vs)))

-- the arguments of an array
abbrev listed : Option Data → Result (List Value) WireRefusal
listed (Some (array ds)) = values_of ds
listed (Some null) = Err (BadShape with_name)
listed (Some (boolean b)) = Err (BadShape with_name)
listed (Some (number n)) = Err (BadShape with_name)
listed (Some (string s)) = Err (BadShape with_name)
listed (Some (object ms)) = Err (BadShape with_name)
listed None = Err (BadShape with_name)

-- the arguments in their field
abbrev pub values_in : Data → Result (List Value) WireRefusal
values_in d = listed (get with_name d)

-- the data `true`
abbrev is_true : Option Data → Bool
is_true (Some (boolean b)) = b
is_true (Some null) = false
is_true (Some (number n)) = false
is_true (Some (string s)) = false
is_true (Some (array ds)) = false
is_true (Some (object ms)) = false
is_true None = false

-- the names of an object's fields are among these
abbrev pub has_only : List (List ℕ) → Members → Bool
has_only names no_members = true
has_only names (member name d more) = list_any (bytes_eq name) names && has_only names more

-- an object with no other fields than these
abbrev pub of_fields : List (List ℕ) → Data → Result Data WireRefusal
of_fields names (object ms) = if has_only names ms then Ok (object ms) else Err (BadShape [])
of_fields names null = Err (BadShape [])
of_fields names (boolean b) = Err (BadShape [])
of_fields names (number n) = Err (BadShape [])
of_fields names (string s) = Err (BadShape [])
of_fields names (array ds) = Err (BadShape [])

-- the fields of each request are judged in byte order; the name of a procedure or a view stands in a field of a line, or comes from the route
abbrev pub do_of : (Data → Result (List ℕ) WireRefusal) → Data → Result Request WireRefusal
do_of name_of d =
    name_of d >>= (λ name. key_in (codes "key") d >>= (λ key. number_in 1 (codes "number") d >>= (λ n. values_in d >>= (λ vs.
    Ok (request.Do key name n vs)))))

-- a look at a view
abbrev pub see_of : (Data → Result (List ℕ) WireRefusal) → Data → Result Request WireRefusal
see_of name_of d = key_in (codes "key") d >>= (λ key. name_of d >>= (λ name. values_in d >>= (λ vs. Ok (request.See key name vs))))

-- the items that a view rests on
abbrev pub reads_of : (Data → Result (List ℕ) WireRefusal) → Data → Result Request WireRefusal
reads_of name_of d = key_in (codes "key") d >>= (λ key. name_of d >>= (λ name. values_in d >>= (λ vs. Ok (request.Reads key name vs))))

-- an admission; on its own route it has all fields, too
abbrev pub admit_of : Data → Result Request WireRefusal
admit_of d =
    name_in (codes "admit") d >>= (λ name. key_in (codes "key") d >>= (λ key. key_in (codes "newkey") d >>= (λ newkey.
    number_in 1 (codes "number") d >>= (λ n. number_in 0 (codes "object") d >>= (λ o. Ok (request.Admit key newkey name n o))))))

-- the counts, asked for in a line
abbrev pub stats_of : Data → Result Request WireRefusal
stats_of d = key_in (codes "key") d >>= (λ key. if is_true (get (codes "stats") d) then Ok (request.Stats key) else Err (BadShape (codes "stats")))

-- the counts, asked for by the route
abbrev pub counts_of : Data → Result Request WireRefusal
counts_of d = key_in (codes "key") d >>= (λ key. Ok (request.Stats key))

-- the fields of each body
abbrev pub do_fields : List (List ℕ)
do_fields = codes "key" ∷ codes "number" ∷ codes "with" ∷ []

-- those of `see`
abbrev pub see_fields : List (List ℕ)
see_fields = codes "key" ∷ codes "with" ∷ []

-- those of `reads`
abbrev pub reads_fields : List (List ℕ)
reads_fields = codes "key" ∷ codes "with" ∷ []

-- those of `admit`
abbrev pub admit_fields : List (List ℕ)
admit_fields = codes "admit" ∷ codes "key" ∷ codes "newkey" ∷ codes "number" ∷ codes "object" ∷ []

-- those of `stats`
abbrev pub stats_fields : List (List ℕ)
stats_fields = codes "key" ∷ codes "stats" ∷ []

-- whether a field is there
abbrev has : List ℕ → Data → Bool
has f d = is_some (get f d)

-- the fields that tell the requests apart: a line has one of them
abbrev pub forms : List (List ℕ)
forms = codes "do" ∷ codes "see" ∷ codes "reads" ∷ codes "admit" ∷ codes "stats" ∷ []

-- a line has the field that tells its form, and those of the body
abbrev pub line_of : Data → Result Request WireRefusal
line_of d =
    if not (count_by (λ f. has f d) forms == 1) then Err (BadShape [])
    else (if has (codes "do") d then of_fields (codes "do" ∷ do_fields) d >>= do_of (name_in (codes "do"))
    else (if has (codes "see") d then of_fields (codes "see" ∷ see_fields) d >>= see_of (name_in (codes "see"))
    else (if has (codes "reads") d then of_fields (codes "reads" ∷ reads_fields) d >>= reads_of (name_in (codes "reads"))
    else (if has (codes "admit") d then of_fields admit_fields d >>= admit_of
    else of_fields stats_fields d >>= stats_of))))

-- the request that data stands for on a route
abbrev pub asked_of : Route → Data → Result Request WireRefusal
asked_of route.Line d = line_of d
asked_of (route.Do name) d = of_fields do_fields d >>= do_of (λ e. Ok name)
asked_of (route.See name) d = of_fields see_fields d >>= see_of (λ e. Ok name)
asked_of (route.Reads name) d = of_fields reads_fields d >>= reads_of (λ e. Ok name)
asked_of route.Admit d = of_fields admit_fields d >>= admit_of
asked_of route.Stats d = of_fields (codes "key" ∷ []) d >>= counts_of

-- the items that a view rests on aren't told yet: what would ask for them is of a later form
abbrev pub served : Request → Result Request WireRefusal
served (request.Do key name n vs) = Ok (request.Do key name n vs)
served (request.See key name vs) = Ok (request.See key name vs)
served (request.Reads key name vs) = Err LaterForm
served (request.Admit key newkey name n o) = Ok (request.Admit key newkey name n o)
served (request.Stats key) = Ok (request.Stats key)

-- what data says on a route
abbrev pub request_of : Route → Data → Result Request WireRefusal
request_of r d = asked_of r d >>= served

-- What a reader of requests may answer: what the bytes' data says, `NotJson` where they have none, and want of memory at any time.
pub data ReadsAs (r : Route) (bytes : List ℕ) : Result Request WireRefusal → Type 0 where
  says : (d : Data) → Says bytes d → ReadsAs r bytes (request_of r d)
  not_json : ((d : Data) → Says bytes d → ⊥) → ReadsAs r bytes (Err NotJson)
  no_memory : ReadsAs r bytes (Err NoMemory)
