use Rattle.std.proofs.Common.{◌≤◌, ◌+◌, length}
use Rattle.sheet_csv.specs.Readers.{IsReading, left_of}
use Rattle.sheet_csv.proofs.TurnLemmas.{Reaches}
use Rattle.sheet_csv.proofs.rows.read_records.Given as goal

abbrev pub invariant-turns : goal.invariant-turns
invariant-turns l = record {
  reading : IsReading l.records;
  short : length (left_of l.records) + length l.rows ≤ length (left_of l.fn.records);
  reaches : Reaches l.slots l.width l.fn.records l.records l.rows;
}

abbrev pub decreases-turns : goal.decreases-turns
decreases-turns l = length (left_of l.records)
