use Rattle.std.proofs.Common.{◌≡◌, ◌++◌, take}
use Rattle.std.specs.Prelude.{map}
use Rattle.std.specs.List.{filter_map}
use Rattle.sheet_meaning.specs.Workbook.{formula_cell}
use Rattle.plain_lists.specs.Told.{scene}
use Rattle.plain_meaning.specs.Tables.{cell_run}
use Rattle.plain_meaning.proofs.rounds.push_cells.Given as goal

abbrev pub invariant-loop-formula : goal.invariant-loop-formula
invariant-loop-formula l =
    l.list.items ≡ l.fn.list.items ++ map (cell_run (scene l.state l.cells))
    (filter_map (formula_cell l.schema l.object.number l.object.column) (take l.formula-index l.formulas))
