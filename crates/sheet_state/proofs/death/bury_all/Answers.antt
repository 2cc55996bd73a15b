use Rattle.std.proofs.Common.{◌≡◌, ◌∙◌, sym, ap, subst, ◌-◌, ◌∷◌, arith, length, None, false, []}
use Rattle.std.specs.Prelude.{slice_set, sum_by, map}
use Rattle.std.specs.List.{flat_map}
use Rattle.sheet_state_rows.specs.Rows.{Table, with_objects}
use Rattle.sheet_state_rows.specs.declared.row.ObjectRow.{ObjectRow}
use Rattle.sheet_state.specs.Births.{with_items}
use Rattle.sheet_state.specs.Deaths.{buried, lost_objects, lost_cells, object_row}
use Rattle.sheet_state.proofs.Sweeping.{Visited, Totals, totals, with_row, all_told, turn, ends, each_above, none_waits, fits_rest, length_set, quiet_object}
use Rattle.sheet_state.proofs.death.bury_all.Goals as goal

abbrev none : ObjectRow
none = record { number = 0; column = 0; parent = None; live = false }

pub bury-requires : goal.bury-requires
bury-requires c =
    let i = c.loop-place.invariant in
    let long = i.long in
    let lt = (fits_rest (length c.args.tables.now.present.objects) c.in-Some.place c.loop-place.places.keys c.pop_first.new.self.keys c.in-Some.ensures.removal
    i.fits).0 in
    omega (arith, lt, long)

pub loop-place-preserved : goal.loop-place-preserved
loop-place-preserved c =
    let t = c.args.tables.now.present in
    let d = c.args.doomed.now in
    let xs = t.objects in
    let ys = c.loop-place.tables.present.objects in
    let p = c.in-Some.place in
    let rest = c.pop_first.new.self.keys in
    let i = c.loop-place.invariant in
    let b = c.in_ok-gone.ensures in
    let removal : c.loop-place.places.keys ≡ p ∷ rest = c.in-Some.ensures.removal in
    let fits = fits_rest (length xs) p c.loop-place.places.keys rest removal i.fits in
    let new = slice_set ys p (buried d (object_row ys p)) in
    let rows : c.bury.new.tables.present.objects ≡ new = ap (λ (v : Table). v.objects) b.present in
    let start = totals [] c.args.counters.objects c.args.counters.cells in
    let before = totals [] c.loop-place.objects c.loop-place.cells in
    let total : totals [] c.saturating_sub-objects.result c.saturating_sub-cells.result ≡ with_row (λ (r : ObjectRow). []) (lost_objects d)
    (lost_cells c.args.columns.now d) before (object_row ys p) =
    ap (λ n. totals [] n c.saturating_sub-cells.result) (c.saturating_sub-objects.ensures
    ∙ ap (λ n. c.loop-place.objects - n) b.objects)
    ∙ ap (λ n. totals [] (c.loop-place.objects - lost_objects d (object_row ys p)) n)
    (c.saturating_sub-cells.ensures ∙ ap (λ n. c.loop-place.cells - n) b.cells) in
    let v = subst (Visited (buried d) (with_row (λ (r : ObjectRow). []) (lost_objects d) (lost_cells c.args.columns.now d)) (quiet_object c.args.columns.now d) xs ys
    start before) removal i.visited in
    record {
      present = b.present ∙ ap (λ (v : Table). with_objects v new) i.present ∙ ap (with_objects t) (sym rows);
      earlier = c.bury.ensures.earlier ∙ i.earlier;
      long = ap length rows ∙ length_set ys p (buried d (object_row ys p)) ∙ i.long;
      fits = fits.1;
      visited =
          subst (λ ls. Visited (buried d) (with_row (λ (r : ObjectRow). []) (lost_objects d) (lost_cells c.args.columns.now d)) (quiet_object c.args.columns.now d) xs
          ls start (totals [] c.saturating_sub-objects.result c.saturating_sub-cells.result) rest) (sym rows)
          (subst (λ s. Visited (buried d) (with_row (λ (r : ObjectRow). []) (lost_objects d) (lost_cells c.args.columns.now d)) (quiet_object c.args.columns.now d) xs
          new start s rest) (sym total)
          (turn (buried d) (with_row (λ (r : ObjectRow). []) (lost_objects d) (lost_cells c.args.columns.now d)) (quiet_object c.args.columns.now d) xs ys start before
          p rest none (each_above p rest c.in-Some.ensures.all_above) fits.0 v));
    }

ended : (c : goal.In_default) →
    (c.loop-place.tables.present.objects ≡ map (buried c.args.doomed.now) c.args.tables.now.present.objects) × (totals [] c.loop-place.objects
    c.loop-place.cells ≡ totals (with_items [] (flat_map (λ (r : ObjectRow). []) c.args.tables.now.present.objects))
    (c.args.counters.objects - sum_by (lost_objects c.args.doomed.now) c.args.tables.now.present.objects)
    (c.args.counters.cells - sum_by (lost_cells c.args.columns.now c.args.doomed.now) c.args.tables.now.present.objects))
ended c =
    let d = c.args.doomed.now in
    let xs = c.args.tables.now.present.objects in
    let i = c.loop-place.invariant in
    let nil = none_waits c.loop-place.places.keys (λ lt. let some = c.in_default.ensures.variant.1 lt in cc) in
    let start = totals [] c.args.counters.objects c.args.counters.cells in
    let v = subst (Visited (buried d) (with_row (λ (r : ObjectRow). []) (lost_objects d) (lost_cells c.args.columns.now d)) (quiet_object c.args.columns.now d) xs
    c.loop-place.tables.present.objects start (totals [] c.loop-place.objects c.loop-place.cells)) nil i.visited in
    let e = ends (buried d) (with_row (λ (r : ObjectRow). []) (lost_objects d) (lost_cells c.args.columns.now d)) (quiet_object c.args.columns.now d) xs
    c.loop-place.tables.present.objects start (totals [] c.loop-place.objects c.loop-place.cells) none v in
    (e.0, e.1 ∙ all_told (λ (r : ObjectRow). []) (lost_objects d) (lost_cells c.args.columns.now d) xs [] c.args.counters.objects c.args.counters.cells)

pub returns-clause-present : goal.returns-clause-present
returns-clause-present c = c.loop-place.invariant.present ∙ ap (with_objects c.args.tables.now.present) (ended c).0

pub returns-clause-objects : goal.returns-clause-objects
returns-clause-objects c = ap (λ (s : Totals). s.first) (ended c).1

pub returns-clause-cells : goal.returns-clause-cells
returns-clause-cells c = ap (λ (s : Totals). s.second) (ended c).1
