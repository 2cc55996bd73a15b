use Rattle.std.proofs.Common.{◌≡◌, ◌+◌, ◌≤◌, length, take}
use Rattle.sheet_meaning.specs.WellFormed.{state_columns}
use Rattle.sheet_state.specs.Births.{formula_columns, firsts}
use Rattle.sheet_state.specs.Stored.{schema_of}
use Rattle.sheet_state.proofs.birth.weight_of.Given as goal

abbrev pub invariant-loop-k : goal.invariant-loop-k
invariant-loop-k l = record {
  cells : l.cells ≡ length (state_columns (schema_of (take l.k l.columns)) l.above) + length (formula_columns (take l.k l.columns) l.above);
  values : l.values ≡ length (firsts (state_columns (schema_of (take l.k l.columns)) l.above));
  few_cells : l.cells ≤ l.k;
  few_values : l.values ≤ l.k;
}
