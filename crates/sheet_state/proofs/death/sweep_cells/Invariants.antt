use Rattle.std.proofs.Common.{◌≡◌, length}
use Rattle.sheet_columns.specs.declared.item.Item.TheVariants.{Stored}
use Rattle.sheet_state_rows.specs.Rows.{with_cells}
use Rattle.sheet_state.specs.Deaths.{swept, swept_items, lost}
use Rattle.sheet_state.specs.Places.{Fits}
use Rattle.sheet_state.proofs.Sweeping.{Visited, totals, with_row, quiet_cell}
use Rattle.sheet_state.proofs.death.sweep_cells.Given as goal

abbrev pub invariant-loop-place : goal.invariant-loop-place
invariant-loop-place l = record {
  present : l.tables.present ≡ with_cells l.fn.tables.present l.tables.present.cells;
  earlier : l.tables.earlier ≡ l.fn.tables.earlier;
  long : length l.tables.present.cells ≡ length l.fn.tables.present.cells;
  fits : Fits (length l.fn.tables.present.cells) l.places.keys;
  visited : Visited (swept l.doomed) (with_row (swept_items Stored l.doomed) (lost l.doomed) (λ q. 0)) (quiet_cell l.doomed) l.fn.tables.present.cells
      l.tables.present.cells (totals l.fn.items l.fn.values 0) (totals l.items l.left 0) l.places.keys;
}

abbrev pub decreases-loop-place : goal.decreases-loop-place
decreases-loop-place l = length l.places.keys
