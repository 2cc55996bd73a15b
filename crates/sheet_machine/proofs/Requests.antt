-- Requests that were read, and lines that read back.
use Rattle.std.proofs.Common.{◌≡◌, ℕ, ℤ, pos, negsuc, List, [], ◌∷◌, Ok, Err, refl, ap, ◌∙◌, subst, arith}
use Rattle.std.specs.Prelude.{Result, IfOk, FitsSigned, All}
use Rattle.std.specs.Int.{w64}
use Rattle.std.specs.List.{AllByRecursion}
use Rattle.std.proofs.lemmas.List.Elements.{recursion_from_All, All-from_recursion}
use Rattle.sheet_values.specs.declared.value.Value.{Value}
use Rattle.sheet_values.specs.declared.value.Value.TheVariants.{Truth, Number, Text, Object}
use Rattle.sheet_requests.specs.Reading.{ReadsAs, ◌>>=◌, served}
use Rattle.sheet_requests.specs.Reading as reading
use Rattle.sheet_requests.specs.Reading.ReadsAs.{says, not_json, no_memory}
use Rattle.sheet_requests.specs.declared.request.Route.{Route}
use Rattle.sheet_requests.specs.declared.request.Route.TheVariants.{Line}
use Rattle.sheet_requests.specs.declared.request.Request.{Request}
use Rattle.sheet_requests.specs.declared.request.Request.TheVariants.{Do, See, Reads, Admit, Stats}
use Rattle.sheet_requests.specs.declared.request.WireRefusal.{WireRefusal}
use Rattle.sheet_wire.specs.Ranges as wire
use Rattle.sheet_machine_laws.specs.Ranges.{IsSigned, IsArgument, IsInRange}
use Rattle.sheet_machine.specs.Told.{AsksNoReads}

-- ---- ranges

signed : (z : ℤ) → FitsSigned w64 z → IsSigned z
signed (pos n) fits = omega (arith, fits)
signed (negsuc n) fits = omega (arith, fits)

argument : (v : Value) → wire.IsArgument v → IsArgument v
argument (Truth b) is = tt
argument (Number z) is = signed z is
argument (Text s) is = is
argument (Object o) is = is

arguments : (vs : List Value) → AllByRecursion wire.IsArgument vs → AllByRecursion IsArgument vs
arguments [] are = tt
arguments (v ∷ vs) are = (argument v are.0, arguments vs are.1)

all_arguments : (vs : List Value) → All wire.IsArgument vs → AllByRecursion IsArgument vs
all_arguments vs are = arguments vs (recursion_from_All wire.IsArgument vs are)

-- a request that was read is in its ranges
pub in_range : (q : Request) → wire.IsInRanges q → IsInRange q
in_range (Do key name n vs) (is_key, is_name, is_number, are) = (is_key, is_name, is_number, all_arguments vs are)
in_range (See key name vs) (is_key, is_name, are) = (is_key, is_name, all_arguments vs are)
in_range (Reads key name vs) (is_key, is_name, are) = (is_key, is_name, all_arguments vs are)
in_range (Admit key newkey name n o) are = are
in_range (Stats key) is_key = is_key

-- and the reverse
fits : (z : ℤ) → IsSigned z → FitsSigned w64 z
fits (pos n) is = record { sfits = omega (arith, is) }
fits (negsuc n) is = record { sfits = omega (arith, is) }

argument_too : (v : Value) → IsArgument v → wire.IsArgument v
argument_too (Truth b) is = tt
argument_too (Number z) is = fits z is
argument_too (Text s) is = is
argument_too (Object o) is = is

arguments_too : (vs : List Value) → AllByRecursion IsArgument vs → AllByRecursion wire.IsArgument vs
arguments_too [] are = tt
arguments_too (v ∷ vs) are = (argument_too v are.0, arguments_too vs are.1)

all_arguments_too : (vs : List Value) → AllByRecursion IsArgument vs → All wire.IsArgument vs
all_arguments_too vs are = All-from_recursion wire.IsArgument vs (arguments_too vs are)

pub in_ranges : (q : Request) → IsInRange q → wire.IsInRanges q
in_ranges (Do key name n vs) (is_key, is_name, is_number, are) = (is_key, is_name, is_number, all_arguments_too vs are)
in_ranges (See key name vs) (is_key, is_name, are) = (is_key, is_name, all_arguments_too vs are)
in_ranges (Reads key name vs) (is_key, is_name, are) = (is_key, is_name, all_arguments_too vs are)
in_ranges (Admit key newkey name n o) are = are
in_ranges (Stats key) is_key = is_key

-- ---- what isn't served yet

from_asked : (asked : Result Request WireRefusal) → IfOk (asked >>= served) AsksNoReads
from_asked (Ok (Do key name n vs)) = tt
from_asked (Ok (See key name vs)) = tt
from_asked (Ok (Reads key name vs)) = tt
from_asked (Ok (Admit key newkey name n o)) = tt
from_asked (Ok (Stats key)) = tt
from_asked (Err e) = tt

-- no request that was read asks for the items that a view rests on
pub no_reads : (r : Route) (bytes : List ℕ) (result : Result Request WireRefusal) → ReadsAs r bytes result → IfOk result AsksNoReads
no_reads r bytes _ (says d is) = from_asked (reading.asked_of r d)
no_reads r bytes _ (not_json never) = tt
no_reads r bytes _ no_memory = tt

-- ---- lines

is_served : (q : Request) → AsksNoReads q → served q ≡ Ok q
is_served (Do key name n vs) asks = refl
is_served (See key name vs) asks = refl
is_served (Reads key name vs) asks = absurd asks
is_served (Admit key newkey name n o) asks = refl
is_served (Stats key) asks = refl

-- a line that reads back is read as its request
pub reads_as : (line : List ℕ) (q : Request) → wire.ReadsBack line q → AsksNoReads q → ReadsAs Line line (Ok q)
reads_as line q back asks = subst (ReadsAs Line line) (ap (λ r. r >>= served) back.2 ∙ is_served q asks) (says back.0 back.1)
