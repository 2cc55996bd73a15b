-- Arguments that are objects.
use Rattle.std.specs.Prelude.{ℕ, codes, Result, Ok, Err}
use Rattle.serde_json.specs.Data.{Data, Num, null, boolean, number, string, array, object}
use Rattle.serde_json.specs.Events.{members_len}
use Rattle.sheet_values.specs.declared.value.Value.{Value}
use Rattle.sheet_values.specs.declared.value.Value.TheVariants.{Object}
use Rattle.sheet_requests.specs.Reading.{◌>>=◌, number_from, object_value}
use Rattle.sheet_requests.specs.declared.request.WireRefusal.{WireRefusal}
use Rattle.sheet_requests.specs.declared.request.WireRefusal.TheVariants.{BadShape}

-- how many fields an object has
abbrev pub fields : Data → ℕ
fields null = 0
fields (boolean b) = 0
fields (number n) = 0
fields (string s) = 0
fields (array ds) = 0
fields (object ms) = members_len ms

-- `{"object":N}`, or what is none
abbrev pub object_of : Data → Result Value WireRefusal
object_of null = Err (BadShape (codes "with"))
object_of (boolean b) = Err (BadShape (codes "with"))
object_of (number n) = Err (BadShape (codes "with"))
object_of (string s) = Err (BadShape (codes "with"))
object_of (array ds) = Err (BadShape (codes "with"))
object_of (object ms) = object_value ms

-- the object with a number
abbrev pub numbered_object : Num → Result Value WireRefusal
numbered_object n = number_from 0 (codes "with") n >>= (λ o. Ok (Object o))
