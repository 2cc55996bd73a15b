use Rattle.std.proofs.Common.{ap, ◌∙◌}
use Rattle.sheet_values.specs.Order.{value_cmp}
use Rattle.sheet_meaning.specs.Run.{after, both_outcomes}
use Rattle.sheet_meaning.specs.Formula.{told, ordered}
use Rattle.sheet_eval.specs.Parts.{one_of}
use Rattle.sheet_eval.proofs.PartLemmas.{if_ok, after_ok}
use Rattle.sheet_eval.proofs.forms.in_order.Goals as goal

pub returns : goal.returns
returns c =
    if_ok c.told.result _ _
    (λ o h.
    h
    ∙ ap (λ r. after r told) c.order_of.ensures
    ∙ after_ok (both_outcomes (one_of c.args.place c.args.left) (one_of c.args.place c.args.right)) (λ x. ordered c.args.test (value_cmp x.0 x.1)) told)
    c.told.ensures
