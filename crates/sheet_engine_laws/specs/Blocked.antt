-- Formula cells that wait for one another.
use Rattle.std.specs.Prelude.{◌≡◌, true, List}
use Rattle.sheet_meaning.specs.Run.{none}
use Rattle.sheet_meaning.specs.Rounds.{meaning}
use Rattle.sheet_meaning.specs.Support.{Cell, has_cell, cells_read}
use Rattle.sheet_meaning.specs.declared.workbook.Workbook.{Workbook}

-- a cell directly reads one of these
pub record ReadsOne (w : Workbook) (cells : List Cell) (x : Cell) : Type 0 where
  pub cell : Cell
  pub among : has_cell cells cell ≡ true
  pub read : has_cell (cells_read w x) cell ≡ true

-- each of these does
abbrev pub AreBlocked : Workbook → List Cell → Type 0
AreBlocked w cells = (x : Cell) → has_cell cells x ≡ true → ReadsOne w cells x

-- then each of them is a cycle
abbrev pub BlockedAreCycles : Type 0
BlockedAreCycles = (w : Workbook) (cells : List Cell) → AreBlocked w cells → (x : Cell) → has_cell cells x ≡ true → meaning w x.0 x.1 ≡ none
