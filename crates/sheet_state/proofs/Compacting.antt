-- The rows of what is there stand for the same workbook.
use Rattle.std.proofs.Common.{◌≡◌, refl, sym, ap, ◌∙◌, true, false, cond, List, [], ◌∷◌, length}
use Rattle.std.specs.Prelude.{filter, map, if◌then◌else◌, Some, None}
use Rattle.std.specs.List.{cons_option}
use Rattle.std.specs.Cmp.{IsTotalOrder, on_total, then_total, nat_cmp_total}
use Rattle.sheet_values.proofs.Merging.{filter_rising}
use Rattle.sheet_state_rows.specs.Rows.{Table, only_live}
use Rattle.sheet_state_rows.specs.declared.row.ObjectRow.{ObjectRow}
use Rattle.sheet_state_rows.specs.declared.row.SetRow.{SetRow}
use Rattle.sheet_meaning.specs.Workbook.{set_in, children_in}
use Rattle.sheet_meaning.specs.WellFormed.{stored_values}
use Rattle.sheet_meaning.specs.declared.workbook.StoredCell.{StoredCell}
use Rattle.sheet_state.specs.Rows.{object_of, objects_in, cells_in, moment, row_cmp, object_cmp, IsSound}
use Rattle.sheet_state.proofs.Without.{filter_all}

pub objects_kept : (rows : List ObjectRow) → objects_in (filter (λ (r : ObjectRow). r.live) rows) ≡ objects_in rows
objects_kept [] = refl
objects_kept (r ∷ rows) =
    elim r.live as (λ b. r.live ≡ b →
    objects_in (cond b (r ∷ filter (λ (q : ObjectRow). q.live) rows) (filter (λ (q : ObjectRow). q.live) rows)) ≡ cons_option (if b then Some (object_of r)
    else None) (objects_in rows)) [
      | true ↦ λ e. ap (λ b. cons_option (if b then Some (object_of r) else None) (objects_in (filter (λ (q : ObjectRow). q.live) rows))) e
          ∙ ap (λ l. object_of r ∷ l) (objects_kept rows)
      | false ↦ λ e. objects_kept rows
    ] refl

abbrev cell_of : SetRow → StoredCell
cell_of q = record { object = q.object; column = q.column; set = q.set }

pub cells_kept : (rows : List SetRow) → cells_in (filter (λ (r : SetRow). r.live) rows) ≡ cells_in rows
cells_kept [] = refl
cells_kept (r ∷ rows) =
    elim r.live as (λ b. r.live ≡ b →
    cells_in (cond b (r ∷ filter (λ (q : SetRow). q.live) rows) (filter (λ (q : SetRow). q.live) rows)) ≡ cons_option (if b then Some (cell_of r) else None)
    (cells_in rows)) [
      | true ↦ λ e. ap (λ b. cons_option (if b then Some (cell_of r) else None) (cells_in (filter (λ (q : SetRow). q.live) rows))) e
          ∙ ap (λ l. cell_of r ∷ l) (cells_kept rows)
      | false ↦ λ e. cells_kept rows
    ] refl

objects_total : IsTotalOrder object_cmp
objects_total = on_total (λ (r : ObjectRow). r.number) nat_cmp_total

rows_total : IsTotalOrder row_cmp
rows_total = then_total (on_total (λ (r : SetRow). r.object) nat_cmp_total) (on_total (λ (r : SetRow). r.column) nat_cmp_total)

pub moment_kept : (t : Table) → moment (only_live t) ≡ moment t
moment_kept t =
    ap (λ xs. record {
      state = record { objects = xs; cells = cells_in (only_live t).cells; next = t.counters.next };
      extents = map (λ (x : StoredCell). (x.object, x.column)) (cells_in (only_live t).extents);
      cells = t.counters.cells;
    }) (objects_kept t.objects)
    ∙ ap (λ xs. record {
      state = record { objects = objects_in t.objects; cells = xs; next = t.counters.next };
      extents = map (λ (x : StoredCell). (x.object, x.column)) (cells_in (only_live t).extents);
      cells = t.counters.cells;
    }) (cells_kept t.cells)
    ∙ ap (λ xs. record {
      state = record { objects = objects_in t.objects; cells = cells_in t.cells; next = t.counters.next };
      extents = map (λ (x : StoredCell). (x.object, x.column)) xs;
      cells = t.counters.cells;
    }) (cells_kept t.extents)

pub sound_kept : (t : Table) → IsSound t → IsSound (only_live t)
sound_kept t s = record {
  objects = filter_rising object_cmp objects_total (λ (r : ObjectRow). r.live) t.objects s.objects;
  cells = filter_rising row_cmp rows_total (λ (r : SetRow). r.live) t.cells s.cells;
  extents = filter_rising row_cmp rows_total (λ (r : SetRow). r.live) t.extents s.extents;
  objects_drawn = filter_all _ (λ (r : ObjectRow). r.live) t.objects s.objects_drawn;
  cells_drawn = filter_all _ (λ (r : SetRow). r.live) t.cells s.cells_drawn;
  extents_drawn = filter_all _ (λ (r : SetRow). r.live) t.extents s.extents_drawn;
  children = λ o c. ap (λ l. set_in l o c) (cells_kept t.extents) ∙ s.children o c ∙ ap (λ l. children_in l o c) (sym (objects_kept t.objects));
  counted_objects = s.counted_objects ∙ ap length (sym (objects_kept t.objects));
  counted_values = s.counted_values ∙ ap stored_values (sym (cells_kept t.cells));
}
