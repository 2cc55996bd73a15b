-- Started cells, each of which waits for the next.
use Rattle.std.specs.Prelude.{◌≡◌, true, List, [], ◌∷◌, Option, Some, None}
use Rattle.sheet_values.specs.declared.value.Value.{Value}
use Rattle.sheet_meaning.specs.Run.{Outcome, none}
use Rattle.sheet_meaning.specs.Workbook.{FormulaCell, formula_cells}
use Rattle.sheet_meaning.specs.Rounds.{meaning, run_cell, settled_world}
use Rattle.sheet_meaning.specs.Support.{Cell, has_cell, cell_at, cells_read}
use Rattle.sheet_meaning.specs.declared.workbook.Workbook.{Workbook}

-- each directly reads the next
abbrev pub Chained : Workbook → List Cell → Type 0
Chained w [] = Unit {0}
Chained w (x ∷ []) = Unit {0}
Chained w (x ∷ y ∷ cells) = (has_cell (cells_read w x) y ≡ true) × Chained w (y ∷ cells)

-- the last directly reads that cell
abbrev pub LastReads : Workbook → List Cell → Cell → Type 0
LastReads w [] y = ⊥
LastReads w (x ∷ []) y = has_cell (cells_read w x) y ≡ true
LastReads w (x ∷ z ∷ cells) y = LastReads w (z ∷ cells) y

-- where the last one reads one of them, all are cycles, those before that one too
abbrev pub ChainsAreCycles : Type 0
ChainsAreCycles =
    (w : Workbook) (cells : List Cell) (y : Cell) → Chained w cells → LastReads w cells y → has_cell cells y ≡ true
    → (x : Cell) → has_cell cells x ≡ true → meaning w x.0 x.1 ≡ none

-- what a cell's formula comes to over the meanings of all cells, and none where there is no such formula cell
abbrev pub worked_out : Workbook → Option FormulaCell → Outcome (List Value)
worked_out w None = none
worked_out w (Some f) = (run_cell (settled_world w) f).outcome

-- a meaning is what the formula comes to over the meanings of all cells
abbrev pub MeaningsAreWorkedOut : Type 0
MeaningsAreWorkedOut = (w : Workbook) (x : Cell) → meaning w x.0 x.1 ≡ worked_out w (cell_at (formula_cells w) x)
