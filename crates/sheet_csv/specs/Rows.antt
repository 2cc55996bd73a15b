-- The rows of a CSV file, as lists of arguments.
use Rattle.std.specs.Prelude.{◌≡◌, ℕ, ◌+◌, ◌==◌, ◌&&◌, Bool, not, if◌then◌else◌, List, [], ◌∷◌, ◌++◌, length, map, bytes_eq, position, Option, Some, None, option_map, option_and_then, unwrap_or, Result, Ok, Err}
use Rattle.std.specs.List.{list_any}
use Rattle.std.specs.Global.{Vec}
use Rattle.csv.specs.Reading.{default_config, records, strip_bom}
use Rattle.csv.specs.Records.{field_at}
use Rattle.sheet_values.specs.declared.value.Kind.{Kind}
use Rattle.sheet_values.specs.declared.value.Value.{Value}
use Rattle.sheet_csv.specs.declared.refusal.CsvRefusal.{CsvRefusal}
use Rattle.sheet_csv.specs.declared.refusal.CsvRefusal.TheVariants.{BadHeader, BadRow, NoMemory}
use Rattle.sheet_csv.specs.declared.header.Slot.{Slot}
use Rattle.sheet_csv.specs.Fields.{read_field}

-- a parameter: its name and its type
abbrev pub Parameter : Type 0
Parameter = List ℕ × Kind

-- the fields of a record
abbrev pub Fields : Type 0
Fields = List (List ℕ)

-- whether a text is one of these
abbrev pub is_among : List ℕ → List (List ℕ) → Bool
is_among text texts = list_any (λ t. bytes_eq t text) texts

-- whether a text is the name of a parameter
abbrev pub names_parameter : List ℕ → List Parameter → Bool
names_parameter text parameters = list_any (λ (p : Parameter). bytes_eq p.0 text) parameters

-- the first of the header's fields, from 1, that names no parameter, or one that an earlier field names
abbrev pub bad_field : List Parameter → Fields → Fields → Option ℕ
bad_field parameters earlier [] = None
bad_field parameters earlier (field ∷ fields) =
    if names_parameter field parameters && not (is_among field earlier) then bad_field parameters (earlier ++ field ∷ []) fields
    else Some (length earlier + 1)

-- whether a header names no field for some parameter
abbrev pub lacks_parameter : List Parameter → Fields → Bool
lacks_parameter parameters header = list_any (λ (p : Parameter). not (is_among p.0 header)) parameters

-- the place of the header's field that is this name, and behind the last one where none is
abbrev pub place_in : Fields → List ℕ → ℕ
place_in header name = unwrap_or (position (λ field. bytes_eq field name) header) (length header)

-- a parameter's type, and the place of the header's field that names it
abbrev pub slot_of : Fields → Parameter → Slot
slot_of header p = record { kind = p.1; place = place_in header p.0 }

-- where the parameters' fields stand, or the first of the header's fields that is bad; a missing one would stand behind them
abbrev pub judged_missing : List Parameter → Fields → Result (List Slot) CsvRefusal
judged_missing parameters header = if lacks_parameter parameters header then Err (BadHeader (length header + 1)) else Ok (map (slot_of header) parameters)

-- the first bad field refuses; else what follows stands
abbrev pub judged_field : Option ℕ → Result (List Slot) CsvRefusal → Result (List Slot) CsvRefusal
judged_field None otherwise = otherwise
judged_field (Some k) otherwise = Err (BadHeader k)

-- the slots of a header, or its refusal: its first bad field, then a parameter that it lacks
abbrev pub judged_header : List Parameter → Fields → Result (List Slot) CsvRefusal
judged_header parameters header = judged_field (bad_field parameters [] header) (judged_missing parameters header)

-- one value more in front
abbrev pub with_value : Option Value → Option (List Value) → Option (List Value)
with_value None values = None
with_value (Some value) values = option_map (λ (vs : List Value). value ∷ vs) values

-- the value of the field of a parameter
abbrev pub slot_value : Fields → Slot → Option Value
slot_value fields slot = option_and_then (read_field slot.kind) (field_at fields slot.place)

-- the arguments of a record, where each of their fields is read
abbrev pub arguments : List Slot → Fields → Option (List Value)
arguments [] fields = Some []
arguments (slot ∷ slots) fields = with_value (slot_value fields slot) (arguments slots fields)

-- the same, of a record with as many fields as the header
abbrev pub row_of : List Slot → ℕ → Fields → Option (List Value)
row_of slots width fields = if length fields == width then arguments slots fields else None

-- one row more in front
abbrev pub with_row : List Value → Result (List (List Value)) CsvRefusal → Result (List (List Value)) CsvRefusal
with_row row (Ok rows) = Ok (row ∷ rows)
with_row row (Err e) = Err e

-- a row before others, or the refusal of the record with this number
abbrev pub row_then : Option (List Value) → ℕ → Result (List (List Value)) CsvRefusal → Result (List (List Value)) CsvRefusal
row_then None number rows = Err (BadRow number)
row_then (Some row) number rows = with_row row rows

-- the rows of records, the first of which has this number, or the first record that is none
abbrev pub rows_from : List Slot → ℕ → ℕ → List Fields → Result (List (List Value)) CsvRefusal
rows_from slots width number [] = Ok []
rows_from slots width number (fields ∷ records) = row_then (row_of slots width fields) number (rows_from slots width (number + 1) records)

-- the same, where the header was judged
abbrev pub rows_behind : Result (List Slot) CsvRefusal → ℕ → List Fields → Result (List (List Value)) CsvRefusal
rows_behind (Ok slots) width records = rows_from slots width 1 records
rows_behind (Err e) width records = Err e

-- the rows of a header and the records behind it; without a header its first field is bad
abbrev pub rows_of : List Parameter → List Fields → Result (List (List Value)) CsvRefusal
rows_of parameters [] = Err (BadHeader 1)
rows_of parameters (header ∷ records) = rows_behind (judged_header parameters header) (length header) records

-- the records of a file, as the crate reads them, behind a byte order mark if there is one
abbrev pub records_in : List ℕ → List Fields
records_in bytes = records default_config (strip_bom bytes)

-- the rows of a file, or why it has none
abbrev pub rows_in : List Parameter → List ℕ → Result (List (List Value)) CsvRefusal
rows_in parameters bytes = rows_of parameters (records_in bytes)

-- a call answers what is told, where a refusal for want of memory is free
abbrev pub Answers : {A : Type 0} → Result A CsvRefusal → Result A CsvRefusal → Type 0
Answers (Ok x) told = told ≡ Ok x
Answers (Err NoMemory) told = Unit {0}
Answers (Err e) told = told ≡ Err e

-- the same, where what is told is the list in a vector
abbrev pub AnswersItems : {A : Type 0} → Result (Vec A) CsvRefusal → Result (List A) CsvRefusal → Type 0
AnswersItems (Ok v) told = told ≡ Ok v.items
AnswersItems (Err NoMemory) told = Unit {0}
AnswersItems (Err e) told = told ≡ Err e
