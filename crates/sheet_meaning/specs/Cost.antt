-- What evaluations cost, where the results of some formula cells are kept.
use Rattle.std.specs.Prelude.{◌≡◌, ℕ, ◌+◌, not, true, List, [], ◌∷◌, length, filter, sum_by}
use Rattle.sheet_meaning.specs.Kept.{kept_with, IsClosed}
use Rattle.sheet_meaning.specs.Support.{Cell, has_cell, used_cells, uses_at, reached, reached_from}
use Rattle.sheet_meaning.specs.declared.run.Use.{Use}
use Rattle.sheet_meaning.specs.declared.workbook.Workbook.{Workbook}

-- the own part of an evaluation: 1, and 1 for each formula cell that it reads directly
abbrev pub own_part : List Use → ℕ
own_part us = 1 + length (used_cells us)

-- the own part of a formula cell
abbrev pub own_part_of_cell : Workbook → Cell → ℕ
own_part_of_cell w x = own_part (uses_at w x)

-- the own parts of those cells whose results aren't kept
abbrev pub own_parts_of_others : Workbook → List Cell → List Cell → ℕ
own_parts_of_others w kept cells = sum_by (own_part_of_cell w) (filter (λ x. not (has_cell kept x)) cells)

-- the cost of a formula cell: of itself and of the cells that are reached from it
abbrev pub cost_of_cell : Workbook → List Cell → Cell → ℕ
cost_of_cell w kept x = own_parts_of_others w kept (reached_from w (x ∷ []))

-- the cost of an evaluation that uses this: its own part, and those of the cells that are reached from it
abbrev pub cost_of : Workbook → List Cell → List Use → ℕ
cost_of w kept us = own_part us + own_parts_of_others w kept (reached w us)

-- the cost of evaluations one after another: the cells that one reaches are kept for the next
abbrev pub cost_of_all : Workbook → List Cell → List (List Use) → ℕ
cost_of_all w kept [] = 0
cost_of_all w kept (us ∷ uss) = cost_of w kept us + cost_of_all w (kept_with w us kept) uss

-- a kept cell costs nothing, where what kept cells read is kept
abbrev pub KeptCellsCostNothing : Type 0
KeptCellsCostNothing = (w : Workbook) (kept : List Cell) (x : Cell) → IsClosed w kept → has_cell kept x ≡ true → cost_of_cell w kept x ≡ 0
