use Rattle.std.proofs.Common.{◌≡◌, ◌∙◌, ap, [], rules}
use Rattle.std.specs.List.{flat_map}
use Rattle.sheet_columns.specs.declared.item.Item.TheVariants.{Extent, Stored}
use Rattle.sheet_state.specs.Births.{with_items}
use Rattle.sheet_state.specs.Deaths.{live_items, up_items, swept_items}
use Rattle.sheet_state.specs.Rows.{objects_in}
use Rattle.sheet_state.proofs.death.be_rid_of.Goals as goal

pub returns-clause-items : goal.returns-clause-items
returns-clause-items c =
    let t = c.args.tables.now.present in
    let d = c.args.doomed.now in
    let lives : c.add_lives.new.items ≡ with_items [] (flat_map (live_items (objects_in t.objects)) d) = search rules in
    let ups : c.add_ups.new.items ≡ with_items c.add_lives.new.items (flat_map (up_items (objects_in t.objects)) d) = search rules in
    let extents : c.sweep_extents.new.items ≡ with_items c.add_ups.new.items (flat_map (swept_items Extent d) t.extents) = search rules in
    let cells : c.sweep_cells.new.items ≡ with_items c.sweep_extents.new.items (flat_map (swept_items Stored d) t.cells) = search rules in
    cells
    ∙ ap (λ l. with_items l (flat_map (swept_items Stored d) t.cells)) extents
    ∙ ap (λ l. with_items (with_items l (flat_map (swept_items Extent d) t.extents)) (flat_map (swept_items Stored d) t.cells)) ups
    ∙ ap (λ l. with_items (with_items (with_items l (flat_map (up_items (objects_in t.objects)) d)) (flat_map (swept_items Extent d) t.extents))
    (flat_map (swept_items Stored d) t.cells)) lives
