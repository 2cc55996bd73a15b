use Rattle.std.proofs.Common.{◌≡◌, drop}
use Rattle.std.specs.Prelude.{filter}
use Rattle.sheet_meaning.specs.Support.{with_cells}
use Rattle.sheet_eval.specs.Told.{lacks}
use Rattle.sheet_eval.proofs.evaluation.note_others.Given as goal

abbrev pub invariant-loop-k : goal.invariant-loop-k
invariant-loop-k g l =
    with_cells l.need (filter (lacks (g.L.Lookup.told l.lookup)) (drop l.k l.cells)) ≡ with_cells l.fn.need (filter (lacks (g.L.Lookup.told l.lookup)) l.cells)
