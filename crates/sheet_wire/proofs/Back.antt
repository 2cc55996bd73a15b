-- What is printed of a request stands for it again.
use Rattle.std.proofs.Common.{◌≡◌, ◌≤◌, ◌^◌, ℕ, pos, negsuc, List, [], ◌∷◌, map, refl, arith, codes}
use Rattle.std.proofs.lemmas.Bool.{lt-ltb, le-leb}
use Rattle.std.proofs.lemmas.List.Elements.{All-head, All-tail}
use Rattle.std.specs.Prelude.{Ok, All, length}
use Rattle.serde_json.specs.Data.{depth, items_depth, unsigned}
use Rattle.serde_json.specs.View.{items_of}
use Rattle.sheet_values.specs.declared.value.Value.{Value}
use Rattle.sheet_values.specs.declared.value.Value.TheVariants.{Truth, Number, Text, Object}
use Rattle.sheet_requests.specs.Bodies.{value_data}
use Rattle.sheet_requests.specs.Lines.{request_data}
use Rattle.sheet_requests.specs.Reading.{greatest, number_from, value_of, values_of, asked_of}
use Rattle.sheet_requests.specs.declared.request.Request.{Request}
use Rattle.sheet_requests.specs.declared.request.Request.TheVariants.{Do, See, Reads, Admit, Stats}
use Rattle.sheet_requests.specs.declared.request.Route.TheVariants.{Line}
use Rattle.sheet_wire.specs.Ranges.{IsArgument, IsInRanges}

-- ---- how deep it nests

value_depth : (v : Value) → depth (value_data v) ≤ 1
value_depth (Truth b) = omega arith
value_depth (Number z) = omega arith
value_depth (Text s) = omega arith
value_depth (Object o) = omega arith

values_depth : (vs : List Value) → items_depth (items_of (map value_data vs)) ≤ 1
values_depth [] = omega arith
values_depth (v ∷ vs) = omega (arith, value_depth v, values_depth vs)

pub shallow : (q : Request) → depth (request_data q) ≤ 127
shallow (Do key name n arguments) = omega (arith, values_depth arguments)
shallow (See key name arguments) = omega (arith, values_depth arguments)
shallow (Reads key name arguments) = omega (arith, values_depth arguments)
shallow (Admit key newkey name n o) = omega arith
shallow (Stats key) = omega arith

-- ---- what is read of it

number_back : (least n : ℕ) (f : List ℕ) → least ≤ n → n ≤ greatest → number_from least f (unsigned n) ≡ Ok n
number_back least n f low high = rw (le-leb least n low, le-leb n greatest high) refl

value_back : (v : Value) → IsArgument v → value_of (value_data v) ≡ Ok v
value_back (Truth b) h = refl
value_back (Number (pos n)) h = rw (lt-ltb n (2 ^ 63) h.sfits) refl
value_back (Number (negsuc n)) h = refl
value_back (Text s) h = rw (le-leb (length s) 1000 h) refl
value_back (Object o) h = rw (number_back 0 o (codes "with") (omega arith) h) refl

values_back : (vs : List Value) → All IsArgument vs → values_of (items_of (map value_data vs)) ≡ Ok vs
values_back [] h = refl
values_back (v ∷ vs) h = rw (value_back v (All-head IsArgument v vs h), values_back vs (All-tail IsArgument v vs h)) refl

pub asked_back : (q : Request) → IsInRanges q → asked_of Line (request_data q) ≡ Ok q
asked_back (Do key name n arguments) h = rw (h.1, h.0, number_back 1 n (codes "number") h.2.0 h.2.1, values_back arguments h.3) refl
asked_back (See key name arguments) h = rw (h.0, h.1, values_back arguments h.2) refl
asked_back (Reads key name arguments) h = rw (h.0, h.1, values_back arguments h.2) refl
asked_back (Admit key newkey name n o) h =
    rw (h.2, h.0, h.1, number_back 1 n (codes "number") h.3.0 h.3.1, number_back 0 o (codes "object") (omega arith) h.4) refl
asked_back (Stats key) h = rw h refl
