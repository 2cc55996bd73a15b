use Rattle.std.proofs.Common.{◌≡◌, ◌*◌, ◌≤◌, take}
use Rattle.std.specs.Prelude.{sum_by}
use Rattle.sheet_meaning.specs.Statements.{value_weight}
use Rattle.sheet_procs.proofs.changes.weight.Given as goal

abbrev pub invariant-loop-value : goal.invariant-loop-value
invariant-loop-value l = record {
  total : l.total ≡ sum_by value_weight (take l.value-index l.values);
  few : l.total ≤ l.value-index * 1016;
}
