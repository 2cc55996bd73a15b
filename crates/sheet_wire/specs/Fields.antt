-- The names of the fields of requests.
use Rattle.std.specs.Prelude.{ℕ, List, codes}
use Rattle.sheet_wire.specs.declared.field.Field.{Field}
use Rattle.sheet_wire.specs.declared.field.Field.TheVariants.{Do, See, Reads, Admit, Stats, Key, Newkey, Number, Object, With}

-- the name of a field
abbrev pub field_name : Field → List ℕ
field_name Do = codes "do"
field_name See = codes "see"
field_name Reads = codes "reads"
field_name Admit = codes "admit"
field_name Stats = codes "stats"
field_name Key = codes "key"
field_name Newkey = codes "newkey"
field_name Number = codes "number"
field_name Object = codes "object"
field_name With = codes "with"
