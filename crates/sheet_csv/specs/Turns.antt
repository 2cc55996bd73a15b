-- What was read so far, before what is still to be read.
use Rattle.std.specs.Prelude.{◌≡◌, ◌+◌, List, [], ◌∷◌, ◌++◌, length, Option, Some, None, option_map, Result, Ok, Err}
use Rattle.sheet_values.specs.declared.value.Value.{Value}
use Rattle.sheet_csv.specs.declared.refusal.CsvRefusal.{CsvRefusal}
use Rattle.sheet_csv.specs.declared.refusal.CsvRefusal.TheVariants.{BadHeader, BadRow, NoMemory}

-- several values in front
abbrev pub with_values : List Value → Option (List Value) → Option (List Value)
with_values values more = option_map (λ (vs : List Value). values ++ vs) more

-- several rows in front
abbrev pub with_rows : List (List Value) → Result (List (List Value)) CsvRefusal → Result (List (List Value)) CsvRefusal
with_rows rows (Ok more) = Ok (rows ++ more)
with_rows rows (Err e) = Err e

-- one row more behind the others, or the number of the record that is none
abbrev pub AddsRow : {T : Type 0} → Option (List Value) → List (List Value) → List (List Value) → Result T CsvRefusal → Type 0
AddsRow told before after (Ok t) = (row : List Value) × (told ≡ Some row) × (after ≡ before ++ row ∷ [])
AddsRow told before after (Err (BadHeader k)) = ⊥
AddsRow told before after (Err (BadRow k)) = (told ≡ None) × (k ≡ length before + 1)
AddsRow told before after (Err NoMemory) = Unit {0}
