use Rattle.std.proofs.Common.{◌≡◌, refl, [], ◌++◌, ◌+◌, ◌<◌, ◌∙◌, sym, ap, arith, length, take}
use Rattle.std.specs.List.{filter_map}
use Rattle.std.specs.Option.{option_to_list}
use Rattle.std.proofs.lemmas.List.{take_all}
use Rattle.sheet_meaning.specs.WellFormed.{state_columns}
use Rattle.sheet_state.specs.Births.{item_of, with_items, with_rows, state_at, extent_at}
use Rattle.sheet_state.specs.Stored.{schema_of, object_columns}
use Rattle.sheet_state.proofs.Births.{states_more, extents_more, got_at, rows_after, items_after, no_rows, none_yet}
use Rattle.sheet_state.proofs.birth.add_rows.Goals as goal

pub loop-k-init : goal.loop-k-init
loop-k-init c =
    let none = none_yet c.args.columns.now c.count-k-end.ensures.tree.first c.args.above in
    let t = c.args.tables.now.present in
    record {
      rows = sym (no_rows t c.args.object) ∙ ap (λ ks. with_rows t c.args.object ks []) (sym none.0)
          ∙ ap (λ ks. with_rows t c.args.object (state_columns (schema_of (take 1 c.args.columns.now)) c.args.above) ks) (sym none.1);
      earlier = refl;
      items = ap (λ ks. with_items c.args.items.now (filter_map (item_of c.args.object) ks)) (sym none.0);
    }

pub loop-k-preserved : goal.loop-k-preserved
loop-k-preserved c =
    let nodes = c.args.columns.now in
    let above = c.args.above in
    let k = c.loop-k.k in
    let o = c.args.object in
    let lt : k < length nodes = omega (arith, c.count-k-end.ensures.count, c.loop-k-test.true) in
    let at = got_at nodes k lt in
    let i = c.loop-k.invariant in
    let states = states_more nodes above k at.0 at.1 in
    let extents = extents_more nodes above k at.0 at.1 in
    let before = state_columns (schema_of (take k nodes)) above in
    let older = object_columns (take k nodes) above in
    record {
      rows =
          c.in_ok-add_row.ensures.rows
          ∙ ap (λ t. with_rows t o (option_to_list (state_at nodes above k)) (option_to_list (extent_at nodes above k))) i.rows
          ∙ rows_after c.args.tables.now.present o before (option_to_list (state_at nodes above k)) older (option_to_list (extent_at nodes above k))
          ∙ ap (λ ks. with_rows c.args.tables.now.present o ks (older ++ option_to_list (extent_at nodes above k))) (sym states)
          ∙ ap (λ ks. with_rows c.args.tables.now.present o (state_columns (schema_of (take (k + 1) nodes)) above) ks) (sym extents);
      earlier = c.add_row.ensures.earlier ∙ i.earlier;
      items =
          c.in_ok-add_row.ensures.items
          ∙ ap (λ xs. with_items xs (filter_map (item_of o) (option_to_list (state_at nodes above k)))) i.items
          ∙ items_after o c.args.items.now before (option_to_list (state_at nodes above k))
          ∙ ap (λ ks. with_items c.args.items.now (filter_map (item_of o) ks)) (sym states);
    }

pub returns : goal.returns
returns c =
    let nodes = c.args.columns.now in
    let all : take c.loop-k.k nodes ≡ nodes = take_all c.loop-k.k nodes (omega (arith, c.count-k-end.ensures.count, c.loop-k-test.false)) in
    let i = c.loop-k.invariant in
    record {
      rows = i.rows ∙ ap (λ ns. with_rows c.args.tables.now.present c.args.object (state_columns (schema_of ns) c.args.above) (object_columns ns c.args.above))
          all;
      earlier = i.earlier;
      items = i.items ∙ ap (λ ns. with_items c.args.items.now (filter_map (item_of c.args.object) (state_columns (schema_of ns) c.args.above))) all;
    }
