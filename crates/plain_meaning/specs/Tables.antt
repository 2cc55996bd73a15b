-- Tables of outcomes beside their formula cells.
use Rattle.std.specs.Prelude.{List, [], ◌∷◌, map}
use Rattle.sheet_meaning.specs.declared.workbook.Schema.{Schema}
use Rattle.sheet_meaning.specs.declared.workbook.LiveObject.{LiveObject}
use Rattle.sheet_meaning.specs.declared.workbook.Workbook.{Workbook}
use Rattle.sheet_meaning.specs.Run.{none}
use Rattle.sheet_meaning.specs.Formula.{World}
use Rattle.sheet_meaning.specs.Workbook.{FormulaCell, cells_of, formula_cells}
use Rattle.sheet_meaning.specs.Rounds.{Table, table, rounds, run_cell, settled_world}
use Rattle.plain_lists.specs.declared.lookup.WorkedCell.{WorkedCell}
use Rattle.plain_meaning.specs.declared.rounds.CellRun.{CellRun}

-- formula cells beside their outcomes
abbrev pub beside : List FormulaCell → Table → List WorkedCell
beside [] t = []
beside (f ∷ fs) [] = []
beside (f ∷ fs) (o ∷ t) = record { object = f.object; column = f.column; outcome = o } ∷ beside fs t

-- the formula cells of a workbook, beside a table
abbrev pub cells_with : Workbook → Table → List WorkedCell
cells_with w t = beside (formula_cells w) t

-- the formula cells of a workbook, beside their meanings
abbrev pub settled_cells : Workbook → List WorkedCell
settled_cells w = cells_with w (table w (rounds w))

-- the formula cells of an object
abbrev pub cells_under : Schema → LiveObject → List FormulaCell
cells_under s x = cells_of s x.number x.column

-- a formula cell and what its formula comes to and uses
abbrev pub cell_run : World → FormulaCell → CellRun
cell_run u f = record { object = f.object; column = f.column; run = run_cell u f }

-- the formula cells of a workbook, each worked out once
abbrev pub cell_runs : Workbook → World → List CellRun
cell_runs w u = map (cell_run u) (formula_cells w)

-- the same over the last table
abbrev pub settled_runs : Workbook → List CellRun
settled_runs w = cell_runs w (settled_world w)

-- the outcomes alone
abbrev pub worked : CellRun → WorkedCell
worked x = record { object = x.object; column = x.column; outcome = x.run.outcome }

-- without an outcome
abbrev pub unworked : CellRun → WorkedCell
unworked x = record { object = x.object; column = x.column; outcome = none }
