use Rattle.std.proofs.Common.{Bor, ◌≡◌, ◌∷◌, List, Some, sym, ap, ◌∙◌}
use Rattle.sheet_syntax_trees.specs.declared.token.Token.{Token}
use Rattle.sheet_syntax_trees.specs.declared.tree.Formed.{Formed}
use Rattle.sheet_syntax_trees.specs.declared.sign.Sign.TheVariants as sign
use Rattle.sheet_syntax_trees.specs.Reading.{◌>>=◌, after, made, steps}
use Rattle.sheet_syntax.proofs.Loops.{passed, steps_end, steps_cut, steps_more, no_tokens}
use Rattle.sheet_syntax.proofs.build.steps.Goals as goal

pub returns-in-Err : goal.returns-in-Err
returns-in-Err c =
    let behind : after sign.Dot c.loop-behind.remaining.now ≡ Some (c.in-Some-split_first.token.now ∷ c.in-Some-split_first.others.now) =
    sym (c.in-Some.ensures) ∙ ap Some c.in-Some-split_first.ensures.cases.0 in
    passed (λ t. t) (λ (x : Formed × Bor (List Token)). (x.0, x.1.now)) c.in-Err.refusal _ _ c.in-Err.ensures
    (λ d h.
    sym c.loop-behind.invariant
    ∙ steps_more 32 c.args.end c.args.at c.args.line c.loop-behind.formed c.loop-behind.remaining.now c.in-Some-split_first.others.now
    c.in-Some-split_first.token.now behind
    ∙ ap (λ r. r >>= (λ form.
    made 32 c.args.at form c.loop-behind.formed.depth >>= (λ g. steps 32 c.args.end c.args.at c.args.line g c.in-Some-split_first.others.now))) h)

pub returns-in-Err-made : goal.returns-in-Err-made
returns-in-Err-made c =
    let behind : after sign.Dot c.loop-behind.remaining.now ≡ Some (c.in-Some-split_first.token.now ∷ c.in-Some-split_first.others.now) =
    sym (c.in-Some.ensures) ∙ ap Some c.in-Some-split_first.ensures.cases.0 in
    passed (λ f. f) (λ (x : Formed × Bor (List Token)). (x.0, x.1.now)) c.in-Err-made.refusal _ _ c.in-Err-made.ensures
    (λ d h.
    sym c.loop-behind.invariant
    ∙ steps_more 32 c.args.end c.args.at c.args.line c.loop-behind.formed c.loop-behind.remaining.now c.in-Some-split_first.others.now
    c.in-Some-split_first.token.now behind
    ∙ ap (λ r. r >>= (λ form.
    made 32 c.args.at form c.loop-behind.formed.depth >>= (λ g. steps 32 c.args.end c.args.at c.args.line g c.in-Some-split_first.others.now)))
    c.in-Ok.ensures
    ∙ ap (λ r. r >>= (λ g. steps 32 c.args.end c.args.at c.args.line g c.in-Some-split_first.others.now)) h)

pub loop-behind-preserved : goal.loop-behind-preserved
loop-behind-preserved c =
    let behind : after sign.Dot c.loop-behind.remaining.now ≡ Some (c.in-Some-split_first.token.now ∷ c.in-Some-split_first.others.now) =
    sym (c.in-Some.ensures) ∙ ap Some c.in-Some-split_first.ensures.cases.0 in
    sym
    (sym c.loop-behind.invariant
    ∙ steps_more 32 c.args.end c.args.at c.args.line c.loop-behind.formed c.loop-behind.remaining.now c.in-Some-split_first.others.now
    c.in-Some-split_first.token.now behind
    ∙ ap (λ r. r >>= (λ form.
    made 32 c.args.at form c.loop-behind.formed.depth >>= (λ g. steps 32 c.args.end c.args.at c.args.line g c.in-Some-split_first.others.now)))
    c.in-Ok.ensures
    ∙ ap (λ r. r >>= (λ g. steps 32 c.args.end c.args.at c.args.line g c.in-Some-split_first.others.now)) c.in-Ok-made.ensures)

pub returns-in_default-split_first : goal.returns-in_default-split_first
returns-in_default-split_first c =
    sym c.loop-behind.invariant
    ∙ steps_cut 32 c.args.end c.args.at c.args.line c.loop-behind.formed c.loop-behind.remaining.now
    (sym c.in-Some.ensures ∙ ap Some (no_tokens c.in-Some.behind.now c.in_default-split_first.ensures.cases))

pub returns : goal.returns
returns c = sym c.loop-behind.invariant ∙ steps_end 32 c.args.end c.args.at c.args.line c.loop-behind.formed c.loop-behind.remaining.now
    (sym c.in_default.ensures)
