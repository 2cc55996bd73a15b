use Rattle.std.proofs.Common.{◌≡◌, ◌∷◌, sym, ap, ◌∙◌}
use Rattle.sheet_values.specs.declared.value.Kind.TheVariants.{Unknown}
use Rattle.sheet_types_formulas.specs.Kinds.{agreed}
use Rattle.sheet_types_formulas.specs.Forms.{all_agreed}
use Rattle.sheet_types_formulas.proofs.Agreeing.{passed, agreed_none, agreed_on, agreed_refused, no_parts}
use Rattle.sheet_types_formulas.proofs.forms.all_agreed.Goals as goal

pub returns-in-Err : goal.returns-in-Err
returns-in-Err c =
    let n = c.args.columns.now in
    let k = c.loop-part.kind in
    let whole : c.loop-part.rest.now ≡ c.in-Some.part.now ∷ c.in-Some.others.now = c.in-Some.ensures.cases.0 in
    passed c.in-Err.refusal (agreed n k c.in-Some.part.now) (all_agreed n Unknown c.args.parts.now) c.in-Err.ensures
    (λ d h. sym c.loop-part.invariant ∙ ap (all_agreed n k) whole ∙ agreed_refused n k c.in-Some.part.now c.in-Some.others.now d h)

pub loop-part-preserved : goal.loop-part-preserved
loop-part-preserved c =
    let n = c.args.columns.now in
    let k = c.loop-part.kind in
    let whole : c.loop-part.rest.now ≡ c.in-Some.part.now ∷ c.in-Some.others.now = c.in-Some.ensures.cases.0 in
    sym (agreed_on n k c.in-Ok.common c.in-Some.part.now c.in-Some.others.now c.in-Ok.ensures)
    ∙ ap (all_agreed n k) (sym whole)
    ∙ c.loop-part.invariant

pub returns : goal.returns
returns c =
    let n = c.args.columns.now in
    let k = c.loop-part.kind in
    sym c.loop-part.invariant ∙ ap (all_agreed n k) (no_parts c.loop-part.rest.now c.in_default.ensures.cases) ∙ agreed_none n k
