use Rattle.std.proofs.Common.{◌≡◌, ◌*◌, ◌^◌, ◌≤◌, take}
use Rattle.sheet_meaning.specs.WellFormed.{stored_values}
use Rattle.plain_procedures.proofs.filled.stored_values.Given as goal

abbrev pub invariant-loop-cell : goal.invariant-loop-cell
invariant-loop-cell l = record {
  total : l.total ≡ stored_values (take l.cell-index l.cells);
  few : l.total ≤ l.cell-index * 2 ^ 64;
}
