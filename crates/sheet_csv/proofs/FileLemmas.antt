-- The rows of a whole file.
use Rattle.std.proofs.Common.{◌≡◌, ◌<◌, ◌+◌, ◌∙◌, ℕ, List, [], ◌∷◌, length, Option, None, Result, Ok, Err, ap, arith, refl, subst, sym}
use Rattle.csv.specs.Machine.{next_record}
use Rattle.csv.specs.Reading.{default_config, strip_bom}
use Rattle.csv.specs.Records.{Row, fields_of}
use Rattle.csv.specs.declared.parser.State.TheVariants as st
use Rattle.sheet_values.specs.declared.value.Value.{Value}
use Rattle.sheet_csv.specs.declared.header.Slot.{Slot}
use Rattle.sheet_csv.specs.declared.refusal.CsvRefusal.{CsvRefusal}
use Rattle.sheet_csv.specs.declared.refusal.CsvRefusal.TheVariants.{BadHeader, BadRow, NoMemory}
use Rattle.sheet_csv.specs.Readers.{Records, Takes, left_of, records_of, state_of}
use Rattle.sheet_csv.specs.Rows.{Answers, Fields, Parameter, records_in, rows_behind, rows_from, rows_in, rows_of}
use Rattle.sheet_csv.specs.Turns.{AddsRow}
use Rattle.sheet_csv.proofs.Taking.{more_records, no_records}

-- a record that is no row ends the rows
pub row_stops : (T : Type 0) (told : Option (List Value)) (before after : List (List Value)) (e : CsvRefusal) (out : Result (List (List Value)) CsvRefusal)
    → AddsRow {T = T} told before after (Err e) → (told ≡ None → out ≡ Err (BadRow (length before + 1))) → Answers {A = List (List Value)} (Err e) out
row_stops T told before after (BadHeader k) out h f = absurd h
row_stops T told before after (BadRow k) out h f = f h.0 ∙ ap (λ n. Err (BadRow n)) (sym h.1)
row_stops T told before after NoMemory out h f = tt

-- the rows behind a header that is judged well
pub read_behind : (result : Result (List (List Value)) CsvRefusal) (told : Result (List Slot) CsvRefusal) (slots given : List Slot) (width count : ℕ) (records : List Fields) → told ≡ Ok given
    → slots ≡ given → width ≡ count → Answers result (rows_from slots width 1 records) → Answers result (rows_behind told count records)
read_behind result told slots given width count records t s w a = rw (t, ← s, ← w) a

all_records : (r : Records) (bytes : List ℕ) → state_of r ≡ st.StartRecord → left_of r ≡ strip_bom bytes → records_in bytes ≡ records_of (length (strip_bom bytes) + 1) r
all_records r bytes state left = rw (state, left) refl

-- a file without a record
pub file_empty : (r : Records) (bytes : List ℕ) (ps : List Parameter) → state_of r ≡ st.StartRecord → left_of r ≡ strip_bom bytes
    → next_record default_config (state_of r) [] [] (left_of r) ≡ None → rows_in ps bytes ≡ Err (BadHeader 1)
file_empty r bytes ps state left e = ap (rows_of ps) (all_records r bytes state left ∙ no_records r (length (strip_bom bytes) + 1) e)

-- a file with a header
pub file_read : (r next : Records) (bytes : List ℕ) (ps : List Parameter) (header : Row) (result : Result (List (List Value)) CsvRefusal) → state_of r ≡ st.StartRecord
    → left_of r ≡ strip_bom bytes → Takes r next header
    → ((n : ℕ) → length (left_of next) < n → Answers result (rows_of ps (fields_of header ∷ records_of n next))) → Answers result (rows_in ps bytes)
file_read r next bytes ps header result state left t f =
    let same = ap length left in
    let more = more_records r next header (length (strip_bom bytes) + 1) t (omega arith) in
    subst (λ (records : List Fields). Answers result (rows_of ps records)) (sym (all_records r bytes state left ∙ more.2)) (f more.0 more.1)
