use Rattle.std.proofs.Common.{◌≡◌, drop}
use Rattle.sheet_columns.specs.Cells.{with_cells}
use Rattle.sheet_eval_sets.proofs.uses.tell_cells.Given as goal

abbrev pub invariant-loop-k : goal.invariant-loop-k
invariant-loop-k l = with_cells l.all (drop l.k l.cells) ≡ with_cells l.fn.all l.cells
