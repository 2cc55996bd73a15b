-- The ranges of requests, and what their printed lines read back as.
use Rattle.std.specs.Prelude.{◌≡◌, ◌≤◌, ℕ, List, length, true, All, FitsSigned, Ok}
use Rattle.std.specs.Int.{w64}
use Rattle.serde_json.specs.Data.{Data}
use Rattle.sheet_values.specs.declared.value.Value.{Value}
use Rattle.sheet_values.specs.declared.value.Value.TheVariants.{Truth, Number, Text, Object}
use Rattle.sheet_requests.specs.Reading.{Says, is_key, is_name, greatest, asked_of}
use Rattle.sheet_requests.specs.declared.request.Route.{Route}
use Rattle.sheet_requests.specs.declared.request.Route.TheVariants as route
use Rattle.sheet_requests.specs.declared.request.Request.{Request}
use Rattle.sheet_requests.specs.declared.request.Request.TheVariants.{Do, See, Reads, Admit, Stats}

-- a key has 1 to 64 bytes of 0x21 to 0x7E
abbrev pub IsKey : List ℕ → Type 0
IsKey s = is_key s ≡ true

-- a name has 1 to 63 bytes
abbrev pub IsName : List ℕ → Type 0
IsName s = is_name s ≡ true

-- a request's number is 1 to 9223372036854775807
abbrev pub IsNumber : ℕ → Type 0
IsNumber n = (1 ≤ n) × (n ≤ greatest)

-- an argument: a number of 64 bits with a sign, a text of at most 1,000 bytes, an object from 0 to 9223372036854775807
abbrev pub IsArgument : Value → Type 0
IsArgument (Truth b) = Unit {0}
IsArgument (Number z) = FitsSigned w64 z
IsArgument (Text s) = length s ≤ 1000
IsArgument (Object o) = o ≤ greatest

-- a request in the ranges of its fields
abbrev pub IsInRanges : Request → Type 0
IsInRanges (Do key name n arguments) = IsKey key × IsName name × IsNumber n × All IsArgument arguments
IsInRanges (See key name arguments) = IsKey key × IsName name × All IsArgument arguments
IsInRanges (Reads key name arguments) = IsKey key × IsName name × All IsArgument arguments
IsInRanges (Admit key newkey name n o) = IsKey key × IsKey newkey × IsName name × IsNumber n × (o ≤ greatest)
IsInRanges (Stats key) = IsKey key

-- a route whose name, where it has one, is a name
abbrev pub IsNamed : Route → Type 0
IsNamed route.Line = Unit {0}
IsNamed (route.Do name) = IsName name
IsNamed (route.See name) = IsName name
IsNamed (route.Reads name) = IsName name
IsNamed route.Admit = Unit {0}
IsNamed route.Stats = Unit {0}

-- the bytes are JSON whose data stands, on a line, for this request
abbrev pub ReadsBack : List ℕ → Request → Type 0
ReadsBack bytes request = (d : Data) × Says bytes d × (asked_of route.Line d ≡ Ok request)
