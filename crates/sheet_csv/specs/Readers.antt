-- The records that a reader of a slice has before it.
use Rattle.std.specs.Prelude.{◌≡◌, ℕ, ◌+◌, ◌<◌, ◌≤◌, false, List, [], length, Option, Some, None, unwrap_or}
use Rattle.std.specs.Borrow.{Bor}
use Rattle.csv.specs.Machine.{ends_at_end, next_record}
use Rattle.csv.specs.Reading.{default_config, owned_rows_left, owned_rows_reader, reader_config, reader_state, reader_trim, records_from, source_of, Ready}
use Rattle.csv.specs.Records.{Row, fields_of}
use Rattle.csv.specs.declared.iter.ByteRecordsIntoIter.{ByteRecordsIntoIter}
use Rattle.csv.specs.declared.parser.State.{State}
use Rattle.csv.specs.declared.reader.Reader.{Reader}
use Rattle.csv.specs.declared.reader.Trim.TheVariants as trim
use Rattle.sheet_csv.specs.Rows.{Fields}

-- records in turn, out of a slice
abbrev pub Records : Type 0
Records = ByteRecordsIntoIter (Bor (List ℕ))

-- the reader that gives the records
abbrev pub reader_of : Records → Reader (Bor (List ℕ))
reader_of r = owned_rows_reader r

-- where that reader stands
abbrev pub state_of : Records → State
state_of r = reader_state (reader_of r)

-- the bytes that are left, where they are known
abbrev pub known_of : Records → Option (List ℕ)
known_of r = source_of (λ (s : Bor (List ℕ)). Some s.now) (reader_of r)

-- the bytes that are left
abbrev pub left_of : Records → List ℕ
left_of r = unwrap_or (known_of r) []

-- the records that are left, at most that many
abbrev pub records_of : ℕ → Records → List Fields
records_of n r = records_from default_config n (state_of r) (left_of r)

-- a reader between two records, with the crate's defaults
pub record IsReading (r : Records) : Type 0 where
  pub turns : 0 < owned_rows_left r
  pub trim : reader_trim (reader_of r) ≡ trim.None
  pub ready : Ready (reader_of r)
  pub config : reader_config (reader_of r) ≡ default_config
  pub between : ends_at_end (state_of r) ≡ false
  pub known : known_of r ≡ Some (left_of r)

-- a step to the next record, if there is one
pub record Takes (before after : Records) (row : Row) : Type 0 where
  pub reading : IsReading after
  pub shorter : length (left_of after) < length (left_of before)
  pub few : length (fields_of row) ≤ length (left_of before) + 1
  pub took : next_record default_config (state_of before) [] [] (left_of before) ≡ Some (fields_of row, state_of after, left_of after)

-- the next record is given, or there is none left
abbrev pub Steps : Records → Records → Option Row → Type 0
Steps before after None = next_record default_config (state_of before) [] [] (left_of before) ≡ None
Steps before after (Some row) = Takes before after row
