-- Cells that are settled among themselves.
use Rattle.std.specs.Prelude.{◌≡◌, ℕ, zero, suc, true, if◌then◌else◌, List, [], Some, None, Option}
use Rattle.sheet_values.specs.declared.value.Value.{Value}
use Rattle.sheet_meaning.specs.Formula.{World}
use Rattle.sheet_meaning.specs.Run.{Outcome, none}
use Rattle.sheet_meaning.specs.Rounds.{meaning, run_cell}
use Rattle.sheet_meaning.specs.Support.{Cell, has_cell, cell_at}
use Rattle.sheet_meaning.specs.Workbook.{FormulaCell, formula_cells, world}
use Rattle.sheet_meaning.specs.declared.run.Use.{Use}
use Rattle.sheet_meaning.specs.declared.workbook.Workbook.{Workbook}
use Rattle.sheet_engine_laws.specs.Found.{cells_in}

-- what a cell's formula comes to in a world, and what it uses
abbrev pub comes_to : World → Option FormulaCell → Outcome (List Value)
comes_to v None = none
comes_to v (Some f) = (run_cell v f).outcome

abbrev pub used_by : World → Option FormulaCell → List Use
used_by v None = []
used_by v (Some f) = (run_cell v f).uses

-- outcomes of these cells after so many rounds of their own, where no other cell has an outcome
abbrev pub among_themselves : Workbook → List Cell → ℕ → ℕ → ℕ → Outcome (List Value)
among_themselves w cells zero o c = none
among_themselves w cells (suc k) o c =
    if has_cell cells (o, c) then comes_to (world w (among_themselves w cells k)) (cell_at (formula_cells w) (o, c)) else none

-- after these rounds their formulas use these cells alone, and one round more changes nothing
pub record AreLocal (w : Workbook) (cells : List Cell) (k : ℕ) : Type 0 where
  pub closed : (x y : Cell) → has_cell cells x ≡ true → has_cell (cells_in (used_by (world w (among_themselves w cells k)) (cell_at (formula_cells w) x))) y ≡ true → has_cell cells y ≡ true
  pub settled : (x : Cell) → has_cell cells x ≡ true → among_themselves w cells (suc k) x.0 x.1 ≡ among_themselves w cells k x.0 x.1

-- then they have their meanings
abbrev pub LocalRoundsSettle : Type 0
LocalRoundsSettle =
    (w : Workbook) (cells : List Cell) (k : ℕ) → AreLocal w cells k → (x : Cell) → has_cell cells x ≡ true → among_themselves w cells k x.0 x.1 ≡ meaning w x.0 x.1
