use Rattle.std.proofs.Common.{◌≡◌, ◌∙◌, sym, ap, subst, ◌-◌, ◌∷◌, arith, length, [], false}
use Rattle.std.specs.Prelude.{slice_set, sum_by, map}
use Rattle.std.specs.List.{flat_map}
use Rattle.sheet_columns.specs.declared.item.Item.TheVariants.{Extent}
use Rattle.sheet_state_rows.specs.Rows.{Table, with_extents}
use Rattle.sheet_state_rows.specs.declared.row.SetRow.{SetRow}
use Rattle.sheet_state.specs.Births.{with_items}
use Rattle.sheet_state.specs.Deaths.{swept, swept_items, set_row}
use Rattle.sheet_state.proofs.Sweeping.{Visited, Totals, totals, with_row, all_told, turn, ends, each_above, none_waits, fits_rest, length_set, quiet_extent}
use Rattle.sheet_state.proofs.death.sweep_extents.Goals as goal

abbrev none : SetRow
none = record { object = 0; column = 0; live = false; set = [] }

pub sweep_extent-requires : goal.sweep_extent-requires
sweep_extent-requires c =
    let i = c.loop-place.invariant in
    let long = i.long in
    let lt = (fits_rest (length c.args.tables.now.present.extents) c.in-Some.place c.loop-place.places.keys c.pop_first.new.self.keys c.in-Some.ensures.removal
    i.fits).0 in
    omega (arith, lt, long)

pub loop-place-preserved : goal.loop-place-preserved
loop-place-preserved c =
    let t = c.args.tables.now.present in
    let d = c.args.doomed.now in
    let xs = t.extents in
    let ys = c.loop-place.tables.present.extents in
    let p = c.in-Some.place in
    let rest = c.pop_first.new.self.keys in
    let i = c.loop-place.invariant in
    let b = c.in_ok-sweep_extent.ensures in
    let removal : c.loop-place.places.keys ≡ p ∷ rest = c.in-Some.ensures.removal in
    let fits = fits_rest (length xs) p c.loop-place.places.keys rest removal i.fits in
    let new = slice_set ys p (swept d (set_row ys p)) in
    let rows : c.sweep_extent.new.tables.present.extents ≡ new = ap (λ (v : Table). v.extents) b.present in
    let start = totals c.args.items.now 0 0 in
    let before = totals c.loop-place.items 0 0 in
    let total : totals c.sweep_extent.new.items 0 0 ≡ with_row (swept_items Extent d) (λ (q : SetRow). 0) (λ (q : SetRow). 0) before (set_row ys p) =
    ap (λ l. totals l 0 0) b.items in
    let v = subst (Visited (swept d) (with_row (swept_items Extent d) (λ (q : SetRow). 0) (λ (q : SetRow). 0)) (quiet_extent d) xs ys start before) removal
    i.visited in
    record {
      present = b.present ∙ ap (λ (v : Table). with_extents v new) i.present ∙ ap (with_extents t) (sym rows);
      earlier = c.sweep_extent.ensures.earlier ∙ i.earlier;
      long = ap length rows ∙ length_set ys p (swept d (set_row ys p)) ∙ i.long;
      fits = fits.1;
      visited =
          subst (λ ls. Visited (swept d) (with_row (swept_items Extent d) (λ (q : SetRow). 0) (λ (q : SetRow). 0)) (quiet_extent d) xs ls start
          (totals c.sweep_extent.new.items 0 0) rest) (sym rows)
          (subst (λ s. Visited (swept d) (with_row (swept_items Extent d) (λ (q : SetRow). 0) (λ (q : SetRow). 0)) (quiet_extent d) xs new start s rest)
          (sym total)
          (turn (swept d) (with_row (swept_items Extent d) (λ (q : SetRow). 0) (λ (q : SetRow). 0)) (quiet_extent d) xs ys start before p rest none
          (each_above p rest c.in-Some.ensures.all_above) fits.0 v));
    }

ended : (c : goal.In_default) →
    (c.loop-place.tables.present.extents ≡ map (swept c.args.doomed.now) c.args.tables.now.present.extents) × (totals c.loop-place.items 0 0 ≡ totals
    (with_items c.args.items.now (flat_map (swept_items Extent c.args.doomed.now) c.args.tables.now.present.extents))
    (0 - sum_by (λ (q : SetRow). 0) c.args.tables.now.present.extents) (0 - sum_by (λ (q : SetRow). 0) c.args.tables.now.present.extents))
ended c =
    let d = c.args.doomed.now in
    let xs = c.args.tables.now.present.extents in
    let i = c.loop-place.invariant in
    let nil = none_waits c.loop-place.places.keys (λ lt. let some = c.in_default.ensures.variant.1 lt in cc) in
    let start = totals c.args.items.now 0 0 in
    let v = subst (Visited (swept d) (with_row (swept_items Extent d) (λ (q : SetRow). 0) (λ (q : SetRow). 0)) (quiet_extent d) xs
    c.loop-place.tables.present.extents start (totals c.loop-place.items 0 0)) nil i.visited in
    let e = ends (swept d) (with_row (swept_items Extent d) (λ (q : SetRow). 0) (λ (q : SetRow). 0)) (quiet_extent d) xs c.loop-place.tables.present.extents
    start (totals c.loop-place.items 0 0) none v in
    (e.0, e.1 ∙ all_told (swept_items Extent d) (λ (q : SetRow). 0) (λ (q : SetRow). 0) xs c.args.items.now 0 0)

pub returns-clause-present : goal.returns-clause-present
returns-clause-present c = c.loop-place.invariant.present ∙ ap (with_extents c.args.tables.now.present) (ended c).0

pub returns-clause-items : goal.returns-clause-items
returns-clause-items c = ap (λ (s : Totals). s.items) (ended c).1
