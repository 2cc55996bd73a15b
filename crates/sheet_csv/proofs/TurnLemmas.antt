-- The rows that were read so far, and what is still to be read.
use Rattle.std.proofs.Common.{◌≡◌, ◌<◌, ◌+◌, ℕ, List, [], ◌∷◌, ◌++◌, length, Some, None, Ok, Err, ap, sym, ◌∙◌}
use Rattle.csv.specs.Machine.{next_record}
use Rattle.csv.specs.Reading.{default_config}
use Rattle.csv.specs.Records.{Row, fields_of}
use Rattle.sheet_values.specs.declared.value.Value.{Value}
use Rattle.sheet_csv.specs.declared.header.Slot.{Slot}
use Rattle.sheet_csv.specs.declared.refusal.CsvRefusal.TheVariants.{BadRow}
use Rattle.sheet_csv.specs.Readers.{Records, Takes, left_of, records_of, state_of}
use Rattle.sheet_csv.specs.Rows.{row_of, rows_from}
use Rattle.sheet_csv.specs.Turns.{with_rows}
use Rattle.sheet_csv.proofs.RowLemmas.{none_before, row_refused, row_taken, rows_ended}
use Rattle.sheet_csv.proofs.Taking.{more_records, no_records}

-- the rows so far stand before the rows of the records that are left
pub record Reaches (slots : List Slot) (width : ℕ) (start now : Records) (rows : List (List Value)) : Type 0 where
  pub goes : (n : ℕ) → length (left_of start) < n
      → (m : ℕ) × (length (left_of now) < m) × (rows_from slots width 1 (records_of n start) ≡ with_rows rows (rows_from slots width (length rows + 1) (records_of m now)))

pub started : (slots : List Slot) (width : ℕ) (r : Records) → Reaches slots width r r []
started slots width r = record { goes = λ n long. (n, long, none_before (rows_from slots width 1 (records_of n r))) }

pub turned : (slots : List Slot) (width : ℕ) (start now next : Records) (rows : List (List Value)) (row : Row) (values : List Value) → Reaches slots width start now rows
    → Takes now next row → row_of slots width (fields_of row) ≡ Some values → Reaches slots width start next (rows ++ values ∷ [])
turned slots width start now next rows row values r t e = record {
  goes = λ n long.
      let g = r.goes n long in
      let more = more_records now next row g.0 t g.1 in
      (more.0, more.1, g.2 ∙ ap (λ records. with_rows rows (rows_from slots width (length rows + 1) records)) more.2 ∙ row_taken slots width rows (fields_of row) (records_of more.0 next) values (sym e));
}

pub refused : (slots : List Slot) (width : ℕ) (start now next : Records) (rows : List (List Value)) (row : Row) → Reaches slots width start now rows
    → Takes now next row → row_of slots width (fields_of row) ≡ None → (n : ℕ) → length (left_of start) < n
    → rows_from slots width 1 (records_of n start) ≡ Err (BadRow (length rows + 1))
refused slots width start now next rows row r t e n long =
    let g = r.goes n long in
    let more = more_records now next row g.0 t g.1 in
    g.2 ∙ ap (λ records. with_rows rows (rows_from slots width (length rows + 1) records)) more.2 ∙ row_refused slots width rows (fields_of row) (records_of more.0 next) (sym e)

pub ended : (slots : List Slot) (width : ℕ) (start now : Records) (rows : List (List Value)) → Reaches slots width start now rows
    → next_record default_config (state_of now) [] [] (left_of now) ≡ None → (n : ℕ) → length (left_of start) < n
    → rows_from slots width 1 (records_of n start) ≡ Ok rows
ended slots width start now rows r e n long =
    let g = r.goes n long in
    g.2 ∙ rows_ended slots width rows (records_of g.0 now) (no_records now g.0 e)
