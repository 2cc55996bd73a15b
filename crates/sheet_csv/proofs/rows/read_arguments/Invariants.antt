use Rattle.std.proofs.Common.{◌≡◌, length}
use Rattle.csv.specs.Records.{fields_of}
use Rattle.sheet_csv.specs.Rows.{arguments}
use Rattle.sheet_csv.specs.Turns.{with_values}
use Rattle.sheet_csv.proofs.rows.read_arguments.Given as goal

abbrev pub invariant-loop-slot : goal.invariant-loop-slot
invariant-loop-slot l = with_values l.values (arguments l.rest (fields_of l.row)) ≡ arguments l.slots (fields_of l.row)

abbrev pub decreases-loop-slot : goal.decreases-loop-slot
decreases-loop-slot l = length l.rest
