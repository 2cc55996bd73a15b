use Rattle.std.proofs.Common.{Bool, true, false, cond, List, ◌∙◌, sym, ap, subst}
use Rattle.std.specs.List as list
use Rattle.std.specs.Prelude.{is_ok}
use Rattle.sheet_values.specs.Sorted.{IsRising, insert}
use Rattle.sheet_values.proofs.Merging.{insert_rising}
use Rattle.sheet_columns.specs.declared.item.Item.{Item}
use Rattle.sheet_columns.specs.ItemOrder.{item_cmp, item_total}
use Rattle.sheet_columns.proofs.item.Items.insert.Goals as goal

one_of : (b : Bool) (xs ys : List Item) → IsRising item_cmp xs → IsRising item_cmp ys → IsRising item_cmp (cond b xs ys)
one_of true xs ys x y = x
one_of false xs ys x y = y

pub invariant_of-self-in-Before : goal.invariant_of-self-in-Before
invariant_of-self-in-Before c =
    let grown = subst (IsRising item_cmp)
    (sym (ap (insert item_cmp c.args.item) c.as_slice.ensures.value)
    ∙ c.in-Before.ensures.1
    ∙ ap (λ xs. list.insert xs c.in-Before.k c.args.item) c.as_slice.ensures.value)
    (insert_rising item_cmp item_total c.args.item _ c.self.invariant) in
    subst (IsRising item_cmp) (sym c.insert.ensures.items) (one_of (is_ok c.insert.result) _ _ grown c.self.invariant)
