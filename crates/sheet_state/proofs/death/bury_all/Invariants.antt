use Rattle.std.proofs.Common.{◌≡◌, length, []}
use Rattle.sheet_state_rows.specs.Rows.{with_objects}
use Rattle.sheet_state.specs.Deaths.{buried, lost_objects, lost_cells}
use Rattle.sheet_state.specs.Places.{Fits}
use Rattle.sheet_state.proofs.Sweeping.{Visited, totals, with_row, quiet_object}
use Rattle.sheet_state.proofs.death.bury_all.Given as goal

abbrev pub invariant-loop-place : goal.invariant-loop-place
invariant-loop-place l = record {
  present : l.tables.present ≡ with_objects l.fn.tables.present l.tables.present.objects;
  earlier : l.tables.earlier ≡ l.fn.tables.earlier;
  long : length l.tables.present.objects ≡ length l.fn.tables.present.objects;
  fits : Fits (length l.fn.tables.present.objects) l.places.keys;
  visited : Visited (buried l.doomed) (with_row (λ r. []) (lost_objects l.doomed) (lost_cells l.columns l.doomed))
      (quiet_object l.columns l.doomed) l.fn.tables.present.objects l.tables.present.objects (totals [] l.fn.counters.objects l.fn.counters.cells)
      (totals [] l.objects l.cells) l.places.keys;
}

abbrev pub decreases-loop-place : goal.decreases-loop-place
decreases-loop-place l = length l.places.keys
