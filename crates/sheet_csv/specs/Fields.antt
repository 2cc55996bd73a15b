-- What a field of a CSV file is read as.
use Rattle.std.specs.Prelude.{ℕ, ◌+◌, ◌-◌, ◌*◌, ◌==◌, ◌&&◌, Bool, true, false, nat_le, if◌then◌else◌, List, [], ◌∷◌, length, codes, ℤ, pos, neg_ℤ, Option, Some, None, option_map}
use Rattle.std.specs.Char.{is_ascii_digit}
use Rattle.std.specs.List.{list_all}
use Rattle.std.specs.Str.{is_utf8, str_eq_ignore_ascii_case}
use Rattle.sheet_values.specs.declared.value.Kind.{Kind}
use Rattle.sheet_values.specs.declared.value.Kind.TheVariants as kind
use Rattle.sheet_values.specs.declared.value.Value.{Value}
use Rattle.sheet_values.specs.declared.value.Value.TheVariants.{Truth, Number, Text, Object}

-- the number that these digits write behind others
abbrev pub digits_value : ℕ → List ℕ → ℕ
digits_value value [] = value
digits_value value (d ∷ ds) = digits_value (value * 10 + (d - 48)) ds

-- 1 to 19 digits
abbrev pub is_numeral : List ℕ → Bool
is_numeral ds = nat_le 1 (length ds) && nat_le (length ds) 19 && list_all is_ascii_digit ds

-- the number that digits write, where it is at most `most`
abbrev pub value_up_to : ℕ → List ℕ → Option ℕ
value_up_to most ds = if nat_le (digits_value 0 ds) most then Some (digits_value 0 ds) else None

-- the number of 1 to 19 digits, where it is at most `most`
abbrev pub number_up_to : ℕ → List ℕ → Option ℕ
number_up_to most ds = if is_numeral ds then value_up_to most ds else None

-- the number below zero that stands behind its minus
abbrev pub below_zero : ℕ → ℤ
below_zero n = neg_ℤ (pos n)

-- a number of 64 bits: an optional minus, and 1 to 19 digits
abbrev pub read_number : List ℕ → Option ℤ
read_number [] = None
read_number (b ∷ bs) =
    if b == 45 then option_map below_zero (number_up_to 9223372036854775808 bs)
    else option_map pos (number_up_to 9223372036854775807 (b ∷ bs))

-- `true` or `false`, its letters in either case
abbrev pub read_truth : List ℕ → Option Bool
read_truth field =
    if str_eq_ignore_ascii_case field (codes "true") then Some true
    else (if str_eq_ignore_ascii_case field (codes "false") then Some false else None)

-- UTF-8 of at most 1,000 bytes
abbrev pub is_text : List ℕ → Bool
is_text field = is_utf8 field && nat_le (length field) 1000

-- the value of a field, by the type of its parameter
abbrev pub read_field : Kind → List ℕ → Option Value
read_field kind.Unknown field = None
read_field kind.Truth field = option_map Truth (read_truth field)
read_field kind.Number field = option_map Number (read_number field)
read_field kind.Text field = if is_text field then Some (Text field) else None
read_field (kind.Object column) field = option_map Object (number_up_to 9223372036854775807 field)
