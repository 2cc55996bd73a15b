use Rattle.std.proofs.Common.{◌≡◌, ◌∷◌, ◌∙◌, rules}
use Rattle.sheet_meaning.specs.Statements.{workbook}
use Rattle.plain_meaning.proofs.RestLemmas.{rows_more}
use Rattle.plain_meaning.proofs.resting.push_rows_uses.Goals as goal

pub loop-value-preserved : goal.loop-value-preserved
loop-value-preserved c =
    let cut : c.loop-value.rest.now ≡ c.in-Some.value.now ∷ c.in-Some.more.now = search rules in
    rows_more (workbook c.args.schema.now c.args.state.now) c.args.variables.now c.as_slice.result.now c.args.slots.now c.in-Some.value.now
    c.loop-value.rest.now c.in-Some.more.now
    c.loop-value.uses c.push_row_uses.new.uses _ c.loop-value.invariant cut (c.as_slice.ensures.value ∙ c.in_ok-bound.ensures) c.in_ok-push_row_uses.ensures
