use Rattle.std.proofs.Common.{Ok, sym, ap, ◌∙◌}
use Rattle.sheet_syntax_trees.specs.Reading.{made, under_prefixes}
use Rattle.sheet_syntax.proofs.Loops.{passed, under_last, under_refused, no_tokens, same_ok}
use Rattle.sheet_syntax.proofs.build.under_prefixes.Goals as goal

pub returns-in-Err : goal.returns-in-Err
returns-in-Err c =
    let tree = same_ok c.in_ok-tree.ensures in
    passed (λ f. f) (λ f. f) c.in-Err.refusal _ _ c.in-Err.ensures
    (λ d h.
    sym c.loop-token.invariant ∙ ap (λ l. under_prefixes 32 c.args.prefix l (Ok c.loop-token.formed)) c.in-Some.ensures.cases.0
    ∙ under_refused 32 c.args.prefix c.in-Some.others.now c.in-Some.token.now c.loop-token.formed d
    (ap (λ t. made 32 c.in-Some.token.now.start t c.loop-token.formed.depth) tree ∙ h))

pub loop-token-preserved : goal.loop-token-preserved
loop-token-preserved c =
    let tree = same_ok c.in_ok-tree.ensures in
    ap (under_prefixes 32 c.args.prefix c.in-Some.others.now)
    (sym c.in-Ok.ensures ∙ ap (λ t. made 32 c.in-Some.token.now.start t c.loop-token.formed.depth) (sym tree))
    ∙ sym (under_last 32 c.args.prefix c.in-Some.others.now c.in-Some.token.now (Ok c.loop-token.formed))
    ∙ ap (λ l. under_prefixes 32 c.args.prefix l (Ok c.loop-token.formed)) (sym c.in-Some.ensures.cases.0)
    ∙ c.loop-token.invariant

pub returns : goal.returns
unfolding under_prefixes
returns c = sym c.loop-token.invariant
    ∙ ap (λ l. under_prefixes 32 c.args.prefix l (Ok c.loop-token.formed)) (no_tokens c.loop-token.remaining.now c.in_default.ensures.cases)
