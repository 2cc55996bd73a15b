use Rattle.std.proofs.Common.{◌≡◌, ◌∙◌, ap, ◌++◌, [], ◌∷◌}
use Rattle.std.specs.Prelude.{slice_set}
use Rattle.sheet_values.specs.Order.{value_cmp}
use Rattle.sheet_values.specs.Sorted.{insert}
use Rattle.sheet_values.specs.declared.value.Value.TheVariants.{Object}
use Rattle.sheet_state_rows.specs.Rows.{with_objects, with_extents, with_counters, joined}
use Rattle.sheet_state_rows.specs.declared.row.Counters.{Counters}
use Rattle.sheet_state_rows.specs.declared.row.SetRow.{SetRow}
use Rattle.sheet_meaning.specs.WellFormed.{state_columns}
use Rattle.sheet_state.specs.Births.{set_at, with_rows, new_object_row}
use Rattle.sheet_state.specs.Stored.{schema_of, object_columns}
use Rattle.sheet_state.proofs.SetRows.{row}
use Rattle.sheet_state.proofs.state.make.Goals as goal

pub returns-clause-present : goal.returns-clause-present
returns-clause-present c =
    let t = c.args.tables.now.present in
    let p = c.args.parent in
    let k = c.args.column in
    let n = c.counters-number.result.next in
    let scs = state_columns (schema_of c.args.columns.now) k in
    let cols = object_columns c.args.columns.now k in
    let number : n ≡ t.counters.next = ap (λ (x : Counters). x.next) c.counters-number.ensures in
    c.count.ensures.present
    ∙ ap (λ u. with_counters u c.args.after)
    (c.in_ok-add_rows.ensures.rows
    ∙ ap (λ u. with_rows u n scs cols)
    (c.in_ok-add_object.ensures.ok
    ∙ ap (λ u. with_objects u (u.objects ++ new_object_row n k p ∷ []))
    (c.in_ok-join_extent.ensures.ok ∙ ap (λ (r : SetRow). with_extents t (slice_set t.extents c.args.place (joined n r))) c.requires.row)))
    ∙ ap (λ m. with_counters
    (with_rows (with_objects (with_extents t (slice_set t.extents c.args.place (row p k (insert value_cmp (Object m) (set_at t.extents c.args.place)))))
    (t.objects ++ new_object_row m k p ∷ [])) m scs cols) c.args.after) number
