use Rattle.std.proofs.Common.{◌∙◌, sym, ap, subst, take, arith}
use Rattle.std.specs.Prelude.{◌&&◌, ◌||◌, is_some}
use Rattle.std.specs.Ordering.{is_eq}
use Rattle.std.proofs.lemmas.List.{take_all, nil_from_length}
use Rattle.std.proofs.lemmas.List.Folds.{list_any_more}
use Rattle.sheet_values.specs.Order.{value_cmp}
use Rattle.sheet_values.specs.Sets.{contains}
use Rattle.sheet_values.specs.declared.value.Value.TheVariants.{Object}
use Rattle.sheet_meaning.specs.Workbook.{object_at}
use Rattle.sheet_state_references.specs.Below.{has}
use Rattle.sheet_state.specs.Removals.{AreLive}
use Rattle.sheet_state.specs.Rows.{objects_in}
use Rattle.sheet_state.proofs.Living.{spread}
use Rattle.sheet_state.proofs.state.live_of.Goals as goal

pub loop-value-init : goal.loop-value-init
loop-value-init c = λ n. ap (has n) (nil_from_length c.new-live.result.keys c.new-live.ensures.len)

pub loop-value-preserved : goal.loop-value-preserved
loop-value-preserved c = λ n.
    let xs = objects_in c.args.rows.now in
    let vs = c.as_slice-value-items.result.now in
    let i = c.loop-value.value-index in
    let v = c.value-item.result in
    let some = is_some (object_at xs n) in
    c.in_ok-add_live.ensures n
    ∙ ap (λ b. b || (is_eq (value_cmp (Object n) v) && some)) (c.loop-value.invariant n)
    ∙ spread (contains (Object n) (take i vs)) (is_eq (value_cmp (Object n) v)) some
    ∙ ap (λ x. (contains (Object n) (take i vs) || is_eq (value_cmp (Object n) x)) && some) c.value-item.is
    ∙ ap (λ b. b && some) (sym (list_any_more (λ y. is_eq (value_cmp (Object n) y)) vs i v c.loop-value-test.true))

pub returns : goal.returns
returns c =
    let vs = c.as_slice-value-items.result.now in
    subst (λ l. AreLive (objects_in c.args.rows.now) l c.loop-value.live.keys) (take_all c.loop-value.value-index vs (omega (arith, c.loop-value-test.false))
    ∙ c.as_slice-value-items.ensures.values) c.loop-value.invariant
