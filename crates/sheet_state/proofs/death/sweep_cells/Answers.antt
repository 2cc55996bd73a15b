use Rattle.std.proofs.Common.{◌≡◌, ◌∙◌, sym, ap, subst, ◌-◌, ◌∷◌, arith, length, [], false}
use Rattle.std.specs.Prelude.{slice_set, sum_by, map}
use Rattle.std.specs.List.{flat_map}
use Rattle.sheet_columns.specs.declared.item.Item.TheVariants.{Stored}
use Rattle.sheet_state_rows.specs.Rows.{Table, with_cells}
use Rattle.sheet_state_rows.specs.declared.row.SetRow.{SetRow}
use Rattle.sheet_state.specs.Births.{with_items}
use Rattle.sheet_state.specs.Deaths.{swept, swept_items, lost, set_row}
use Rattle.sheet_state.proofs.Sweeping.{Visited, Totals, totals, with_row, all_told, turn, ends, each_above, none_waits, fits_rest, length_set, quiet_cell}
use Rattle.sheet_state.proofs.death.sweep_cells.Goals as goal

abbrev none : SetRow
none = record { object = 0; column = 0; live = false; set = [] }

pub sweep_cell-requires : goal.sweep_cell-requires
sweep_cell-requires c =
    let i = c.loop-place.invariant in
    let long = i.long in
    let lt = (fits_rest (length c.args.tables.now.present.cells) c.in-Some.place c.loop-place.places.keys c.pop_first.new.self.keys c.in-Some.ensures.removal
    i.fits).0 in
    omega (arith, lt, long)

pub loop-place-preserved : goal.loop-place-preserved
loop-place-preserved c =
    let t = c.args.tables.now.present in
    let d = c.args.doomed.now in
    let xs = t.cells in
    let ys = c.loop-place.tables.present.cells in
    let p = c.in-Some.place in
    let rest = c.pop_first.new.self.keys in
    let i = c.loop-place.invariant in
    let b = c.in_ok-gone.ensures in
    let removal : c.loop-place.places.keys ≡ p ∷ rest = c.in-Some.ensures.removal in
    let fits = fits_rest (length xs) p c.loop-place.places.keys rest removal i.fits in
    let new = slice_set ys p (swept d (set_row ys p)) in
    let rows : c.sweep_cell.new.tables.present.cells ≡ new = ap (λ (v : Table). v.cells) b.present in
    let start = totals c.args.items.now c.args.values 0 in
    let before = totals c.loop-place.items c.loop-place.left 0 in
    let total : totals c.sweep_cell.new.items c.saturating_sub-left.result 0 ≡ with_row (swept_items Stored d) (lost d) (λ (q : SetRow). 0) before
    (set_row ys p) =
    ap (λ l. totals l c.saturating_sub-left.result 0) b.items ∙ ap (λ n. totals (with_items c.loop-place.items (swept_items Stored d (set_row ys p))) n 0)
    (c.saturating_sub-left.ensures ∙ ap (λ n. c.loop-place.left - n) b.gone) in
    let v = subst (Visited (swept d) (with_row (swept_items Stored d) (lost d) (λ (q : SetRow). 0)) (quiet_cell d) xs ys start before) removal i.visited in
    record {
      present = b.present ∙ ap (λ (v : Table). with_cells v new) i.present ∙ ap (with_cells t) (sym rows);
      earlier = c.sweep_cell.ensures.earlier ∙ i.earlier;
      long = ap length rows ∙ length_set ys p (swept d (set_row ys p)) ∙ i.long;
      fits = fits.1;
      visited =
          subst (λ ls. Visited (swept d) (with_row (swept_items Stored d) (lost d) (λ (q : SetRow). 0)) (quiet_cell d) xs ls start
          (totals c.sweep_cell.new.items c.saturating_sub-left.result 0) rest) (sym rows)
          (subst (λ s. Visited (swept d) (with_row (swept_items Stored d) (lost d) (λ (q : SetRow). 0)) (quiet_cell d) xs new start s rest) (sym total)
          (turn (swept d) (with_row (swept_items Stored d) (lost d) (λ (q : SetRow). 0)) (quiet_cell d) xs ys start before p rest none
          (each_above p rest c.in-Some.ensures.all_above) fits.0 v));
    }

ended : (c : goal.In_default) →
    (c.loop-place.tables.present.cells ≡ map (swept c.args.doomed.now) c.args.tables.now.present.cells) × (totals c.loop-place.items c.loop-place.left
    0 ≡ totals (with_items c.args.items.now (flat_map (swept_items Stored c.args.doomed.now) c.args.tables.now.present.cells))
    (c.args.values - sum_by (lost c.args.doomed.now) c.args.tables.now.present.cells) (0 - sum_by (λ (q : SetRow). 0) c.args.tables.now.present.cells))
ended c =
    let d = c.args.doomed.now in
    let xs = c.args.tables.now.present.cells in
    let i = c.loop-place.invariant in
    let nil = none_waits c.loop-place.places.keys (λ lt. let some = c.in_default.ensures.variant.1 lt in cc) in
    let start = totals c.args.items.now c.args.values 0 in
    let v = subst (Visited (swept d) (with_row (swept_items Stored d) (lost d) (λ (q : SetRow). 0)) (quiet_cell d) xs c.loop-place.tables.present.cells start
    (totals c.loop-place.items c.loop-place.left 0)) nil i.visited in
    let e = ends (swept d) (with_row (swept_items Stored d) (lost d) (λ (q : SetRow). 0)) (quiet_cell d) xs c.loop-place.tables.present.cells start
    (totals c.loop-place.items c.loop-place.left 0) none v in
    (e.0, e.1 ∙ all_told (swept_items Stored d) (lost d) (λ (q : SetRow). 0) xs c.args.items.now c.args.values 0)

pub returns-clause-present : goal.returns-clause-present
returns-clause-present c = c.loop-place.invariant.present ∙ ap (with_cells c.args.tables.now.present) (ended c).0

pub returns-clause-items : goal.returns-clause-items
returns-clause-items c = ap (λ (s : Totals). s.items) (ended c).1

pub returns-clause-values : goal.returns-clause-values
returns-clause-values c = ap (λ (s : Totals). s.first) (ended c).1
