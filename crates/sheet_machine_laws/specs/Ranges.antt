-- The ranges of requests.
use Rattle.std.specs.Prelude.{◌≡◌, ℕ, ℤ, pos, negsuc, ◌≤◌, true, List, length}
use Rattle.std.specs.List.{AllByRecursion}
use Rattle.sheet_values.specs.declared.value.Value.{Value}
use Rattle.sheet_values.specs.declared.value.Value.TheVariants.{Truth, Number, Text, Object}
use Rattle.sheet_requests.specs.Reading.{is_key, is_name, greatest}
use Rattle.sheet_requests.specs.declared.request.Request.{Request}
use Rattle.sheet_requests.specs.declared.request.Request.TheVariants.{Do, See, Reads, Admit, Stats}

-- a number of 64 bits with a sign
abbrev pub IsSigned : ℤ → Type 0
IsSigned (pos n) = n ≤ greatest
IsSigned (negsuc n) = n ≤ greatest

-- an argument: a text has 1,000 bytes at most
abbrev pub IsArgument : Value → Type 0
IsArgument (Truth b) = Unit {0}
IsArgument (Number z) = IsSigned z
IsArgument (Text t) = length t ≤ 1000
IsArgument (Object o) = o ≤ greatest

-- a key has 1 to 64 bytes of 0x21 to 0x7E, and a name 1 to 63 bytes
abbrev pub IsKey : List ℕ → Type 0
IsKey key = is_key key ≡ true

abbrev pub IsName : List ℕ → Type 0
IsName name = is_name name ≡ true

-- the number of a request
abbrev pub IsNumber : ℕ → Type 0
IsNumber n = (1 ≤ n) × (n ≤ greatest)

-- a request within these ranges, as each is that was read
abbrev pub IsInRange : Request → Type 0
IsInRange (Do key name n arguments) = IsKey key × IsName name × IsNumber n × AllByRecursion IsArgument arguments
IsInRange (See key name arguments) = IsKey key × IsName name × AllByRecursion IsArgument arguments
IsInRange (Reads key name arguments) = IsKey key × IsName name × AllByRecursion IsArgument arguments
IsInRange (Admit key newkey name n o) = IsKey key × IsKey newkey × IsName name × IsNumber n × (o ≤ greatest)
IsInRange (Stats key) = IsKey key
