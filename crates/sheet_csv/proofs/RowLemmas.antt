-- Rows read one after another.
use Rattle.std.proofs.Common.{◌≡◌, ◌+◌, ℕ, List, [], ◌∷◌, ◌++◌, length, Option, Some, None, refl, sym, ap, arith, append_assoc, length-append, Result, Ok, Err}
use Rattle.std.proofs.lemmas.List.{append-nil}
use Rattle.sheet_values.specs.declared.value.Value.{Value}
use Rattle.sheet_csv.specs.declared.refusal.CsvRefusal.{CsvRefusal}
use Rattle.sheet_csv.specs.declared.refusal.CsvRefusal.TheVariants.{BadHeader, BadRow, NoMemory}
use Rattle.sheet_csv.specs.declared.header.Slot.{Slot}
use Rattle.sheet_csv.specs.Rows.{Answers, AnswersItems, Fields, row_of, rows_behind, rows_from, with_row, with_value}
use Rattle.sheet_csv.specs.Turns.{with_rows, with_values}

-- several rows before one more
one_row : (rows : List (List Value)) (row : List Value) (more : Result (List (List Value)) CsvRefusal) → with_rows rows (with_row row more) ≡ with_rows (rows ++ row ∷ []) more
one_row rows row (Ok more) = ap Ok (sym (append_assoc rows (row ∷ []) more))
one_row rows row (Err e) = refl

-- nothing before what is read
pub none_before : (more : Result (List (List Value)) CsvRefusal) → more ≡ with_rows [] more
none_before (Ok more) = refl
none_before (Err e) = refl

-- the record of this number is a row
pub row_taken : (slots : List Slot) (width : ℕ) (rows : List (List Value)) (fields : Fields) (records : List Fields) (row : List Value) → Some row ≡ row_of slots width fields
    → with_rows rows (rows_from slots width (length rows + 1) (fields ∷ records))
    ≡ with_rows (rows ++ row ∷ []) (rows_from slots width (length (rows ++ row ∷ []) + 1) records)
row_taken slots width rows fields records row e =
    let next : length (rows ++ row ∷ []) + 1 ≡ length rows + 1 + 1 = omega (arith, length-append rows (row ∷ [])) in
    rw (← e, next) (one_row rows row (rows_from slots width (length rows + 1 + 1) records))

-- it is none
pub row_refused : (slots : List Slot) (width : ℕ) (rows : List (List Value)) (fields : Fields) (records : List Fields) → None ≡ row_of slots width fields
    → with_rows rows (rows_from slots width (length rows + 1) (fields ∷ records)) ≡ Err (BadRow (length rows + 1))
row_refused slots width rows fields records e = rw (← e) refl

-- there are no more
pub rows_ended : (slots : List Slot) (width : ℕ) (rows : List (List Value)) (records : List Fields) → records ≡ []
    → with_rows rows (rows_from slots width (length rows + 1) records) ≡ Ok rows
rows_ended slots width rows records e = rw e (ap Ok (append-nil rows))

-- a header that is refused
pub header_refused : (e : CsvRefusal) (told : Result (List Slot) CsvRefusal) (width : ℕ) (records : List Fields)
    → AnswersItems {A = Slot} (Err e) told → Answers {A = List (List Value)} (Err e) (rows_behind told width records)
header_refused (BadHeader k) told width records h = rw h refl
header_refused (BadRow k) told width records h = rw h refl
header_refused NoMemory told width records h = tt

-- one value more before the others
pub one_value : (values : List Value) (value : Value) (more : Option (List Value)) → with_values values (with_value (Some value) more) ≡ with_values (values ++ value ∷ []) more
one_value values value None = refl
one_value values value (Some more) = ap Some (sym (append_assoc values (value ∷ []) more))

-- no values before what is read
pub no_values : (more : Option (List Value)) → with_values [] more ≡ more
no_values None = refl
no_values (Some more) = refl

-- a list of no length
pub no_slots : (slots : List Slot) → length slots ≡ 0 → slots ≡ []
no_slots [] e = refl
no_slots (slot ∷ slots) e = absurd (omega arith)
