use Rattle.std.proofs.Common.{◌≡◌, length}
use Rattle.sheet_columns.specs.declared.item.Item.TheVariants.{Extent}
use Rattle.sheet_state_rows.specs.Rows.{with_extents}
use Rattle.sheet_state.specs.Deaths.{swept, swept_items}
use Rattle.sheet_state.specs.Places.{Fits}
use Rattle.sheet_state.proofs.Sweeping.{Visited, totals, with_row, quiet_extent}
use Rattle.sheet_state.proofs.death.sweep_extents.Given as goal

abbrev pub invariant-loop-place : goal.invariant-loop-place
invariant-loop-place l = record {
  present : l.tables.present ≡ with_extents l.fn.tables.present l.tables.present.extents;
  earlier : l.tables.earlier ≡ l.fn.tables.earlier;
  long : length l.tables.present.extents ≡ length l.fn.tables.present.extents;
  fits : Fits (length l.fn.tables.present.extents) l.places.keys;
  visited : Visited (swept l.doomed) (with_row (swept_items Extent l.doomed) (λ q. 0) (λ q. 0)) (quiet_extent l.doomed) l.fn.tables.present.extents
      l.tables.present.extents (totals l.fn.items 0 0) (totals l.items 0 0) l.places.keys;
}

abbrev pub decreases-loop-place : goal.decreases-loop-place
decreases-loop-place l = length l.places.keys
