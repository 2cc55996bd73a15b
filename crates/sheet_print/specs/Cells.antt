-- The text of a cell.
use Rattle.std.specs.Prelude.{ℕ, ◌+◌, ◌/◌, ◌%◌, ◌==◌, ◌||◌, Bool, true, false, nat_lt, if◌then◌else◌, List, [], ◌∷◌, ◌++◌, codes, flat_map, Result, Ok, Err}
use Rattle.std.specs.Fmt.{decimal, signed_decimal}
use Rattle.sheet_values.specs.declared.value.Value.{Value}
use Rattle.sheet_values.specs.declared.value.Value.TheVariants.{Truth, Number, Text, Object}
use Rattle.sheet_columns.specs.declared.fault.Fault.{Fault}
use Rattle.sheet_columns.specs.declared.fault.Fault.TheVariants as fault

-- a truth as its word
abbrev pub truth_text : Bool → List ℕ
truth_text true = codes "true"
truth_text false = codes "false"

-- a digit of base 16, in small letters
abbrev pub hex_digit : ℕ → ℕ
hex_digit d = if nat_lt d 10 then 48 + d else 87 + d

-- a control byte by its number
abbrev pub hex_text : ℕ → List ℕ
hex_text b = codes "\\x" ++ hex_digit (b / 16) ∷ hex_digit (b % 16) ∷ []

-- a byte of a text: a quote, a backslash, a line feed and any other control byte stand behind a backslash
abbrev pub escape : ℕ → List ℕ
escape b =
    if b == 34 then codes "\\\""
    else (if b == 92 then codes "\\\\"
    else (if b == 10 then codes "\\n"
    else (if nat_lt b 32 || b == 127 then hex_text b
    else b ∷ [])))

-- a text in quotes
abbrev pub quoted : List ℕ → List ℕ
quoted text = codes "\"" ++ flat_map escape text ++ codes "\""

-- the text of a value: texts in quotes, objects behind `#`
abbrev pub value_text : Value → List ℕ
value_text (Truth b) = truth_text b
value_text (Number n) = signed_decimal n
value_text (Text t) = quoted t
value_text (Object o) = codes "#" ++ decimal o

-- the text of a value behind another
abbrev pub next_text : Value → List ℕ
next_text v = codes ", " ++ value_text v

-- the text of a set: its values, or `-` where there is none
abbrev pub set_text : List Value → List ℕ
set_text [] = codes "-"
set_text (v ∷ vs) = value_text v ++ flat_map next_text vs

-- the word of a fault
abbrev pub fault_text : Fault → List ℕ
fault_text fault.Cycle = codes "cycle"
fault_text (fault.NotOne found place) = codes "not one"
fault_text (fault.Overflow place) = codes "overflow"
fault_text (fault.ZeroDivisor place) = codes "zero divisor"
fault_text (fault.TextTooLong place) = codes "text too long"

-- a fault in place of a set: `!` and its word
abbrev pub fault_cell : Fault → List ℕ
fault_cell f = codes "!" ++ fault_text f

-- the text of a cell: its set, or its fault
abbrev pub cell_text : Result (List Value) Fault → List ℕ
cell_text (Ok vs) = set_text vs
cell_text (Err f) = fault_cell f
