-- What is reached from uses, by the formula cells that are each worked out once.
use Rattle.std.specs.Prelude.{ℕ, zero, suc, ◌+◌, ◌==◌, ◌&&◌, if◌then◌else◌, List, [], ◌∷◌, ◌++◌, length}
use Rattle.std.specs.List.{flat_map, filter_map}
use Rattle.sheet_columns.specs.declared.item.Item.{Item}
use Rattle.sheet_columns.specs.declared.item.Item.TheVariants.{Live}
use Rattle.sheet_meaning.specs.declared.run.Use.{Use}
use Rattle.sheet_meaning.specs.Rounds.{item_in, cell_in}
use Rattle.sheet_meaning.specs.Support.{Cell, with_cells, in_order}
use Rattle.plain_meaning.specs.declared.rounds.CellRun.{CellRun}

-- what the formula of a cell uses
abbrev pub uses_in : List CellRun → Cell → List Use
uses_in [] x = []
uses_in (r ∷ rs) x = if r.object == x.0 && r.column == x.1 then r.run.uses else uses_in rs x

-- the formula cells that it reads directly, and the items
abbrev pub cells_in : List CellRun → Cell → List Cell
cells_in runs x = filter_map cell_in (uses_in runs x)

-- the items that a cell reads directly, with its object
abbrev pub items_in : List CellRun → Cell → List Item
items_in runs x = Live x.0 ∷ filter_map item_in (uses_in runs x)

-- the cells with those that they read directly, so many times over
abbrev pub spread_by : (Cell → List Cell) → ℕ → List Cell → List Cell
spread_by reads zero cells = cells
spread_by reads (suc k) cells = let more = spread_by reads k cells in with_cells more (flat_map reads more)

-- the cells that are reached from these uses
abbrev pub reached_by : List CellRun → List Use → List Cell
reached_by runs us = spread_by (cells_in runs) (length runs + 1) (with_cells [] (filter_map cell_in us))

-- the items that these uses rest on, in order
abbrev pub support_by : List CellRun → List Use → List Item
support_by runs us = in_order (filter_map item_in us ++ flat_map (items_in runs) (reached_by runs us))
