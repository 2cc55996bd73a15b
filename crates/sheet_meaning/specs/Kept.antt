-- The formula cells whose results are kept.
use Rattle.std.specs.Prelude.{◌≡◌, not, true, List, filter}
use Rattle.sheet_meaning.specs.declared.run.Use.{Use}
use Rattle.sheet_meaning.specs.Items.{is_changed}
use Rattle.std.specs.List.{list_any, filter_map}
use Rattle.sheet_meaning.specs.Rounds.{cell_in}
use Rattle.sheet_meaning.specs.Support.{Cell, has_cell, with_cells, cells_read, reached, support_of_cell}
use Rattle.sheet_meaning.specs.WellFormed.{IsWellFormed}
use Rattle.sheet_meaning.specs.declared.workbook.Workbook.{Workbook}

-- after an evaluation: the cells that are reached from what it used are kept too
abbrev pub kept_with : Workbook → List Use → List Cell → List Cell
kept_with w us kept = with_cells kept (reached w us)

-- after a change from w to u: every cell is dropped whose support in w holds a changed item, and no other
abbrev pub kept_after : Workbook → Workbook → List Cell → List Cell
kept_after w u kept = filter (λ x. not (list_any (is_changed w.state u.state) (support_of_cell w x))) kept

-- the same cells, in whatever order
abbrev pub HoldSame : List Cell → List Cell → Type 0
HoldSame xs ys = (x : Cell) → has_cell xs x ≡ has_cell ys x

-- what a kept cell reads directly is kept
abbrev pub IsClosed : Workbook → List Cell → Type 0
IsClosed w kept = (x y : Cell) → has_cell kept x ≡ true → has_cell (cells_read w x) y ≡ true → has_cell kept y ≡ true

-- which cells are kept doesn't rest on any order
pub record KeptByMembership (w u : Workbook) (kept other : List Cell) : Type 0 where
  pub evaluated : (us vs : List Use) → HoldSame (filter_map cell_in us) (filter_map cell_in vs) → HoldSame (kept_with w us kept) (kept_with w vs other)
  pub changed : HoldSame (kept_after w u kept) (kept_after w u other)

abbrev pub KeptCellsAreSets : Type 0
KeptCellsAreSets = (w u : Workbook) (kept other : List Cell) → HoldSame kept other → KeptByMembership w u kept other

-- and stay closed
pub record StayClosed (w u : Workbook) (kept : List Cell) : Type 0 where
  pub evaluated : (us : List Use) → IsClosed w (kept_with w us kept)
  pub changed : IsWellFormed w → IsWellFormed u → u.schema ≡ w.schema → IsClosed u (kept_after w u kept)

abbrev pub KeptCellsStayClosed : Type 0
KeptCellsStayClosed = (w u : Workbook) (kept : List Cell) → IsClosed w kept → StayClosed w u kept
