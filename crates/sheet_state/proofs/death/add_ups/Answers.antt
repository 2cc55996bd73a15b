use Rattle.std.proofs.Common.{◌∙◌, ap, arith}
use Rattle.std.specs.List.{flat_map}
use Rattle.std.proofs.lemmas.List.{take_all}
use Rattle.sheet_state.specs.Births.{with_items}
use Rattle.sheet_state.specs.Deaths.{up_items}
use Rattle.sheet_state.specs.Rows.{objects_in}
use Rattle.sheet_state.proofs.Itemized.{items_more}
use Rattle.sheet_state.proofs.death.add_ups.Goals as goal

pub loop-value-preserved : goal.loop-value-preserved
loop-value-preserved c =
    items_more (up_items (objects_in c.args.rows.now)) c.args.items.now c.loop-value.items c.add_up_item.new.items c.as_slice-value-items.result.now
    c.loop-value.value-index c.value-item.result c.loop-value-test.true c.loop-value.invariant c.in_ok-add_up_item.ensures c.value-item.is

pub returns : goal.returns
returns c =
    let vs = c.as_slice-value-items.result.now in
    c.loop-value.invariant
    ∙ ap (λ l. with_items c.args.items.now (flat_map (up_items (objects_in c.args.rows.now)) l))
    (take_all c.loop-value.value-index vs (omega (arith, c.loop-value-test.false)) ∙ c.as_slice-value-items.ensures.values)
