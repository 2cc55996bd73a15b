use Rattle.std.proofs.Common.{◌≡◌, [], ◌∷◌, ◌++◌, length, take, Some, None, sym, ap, ◌∙◌, arith, append_assoc, append-nil}
use Rattle.sheet_syntax_trees.specs.Operators.{prefix_sign}
use Rattle.sheet_syntax_trees.specs.Reading.{after, prefixes}
use Rattle.sheet_syntax.proofs.Loops.{prefixes_end, prefixes_more, take_next}
use Rattle.sheet_syntax.proofs.build.prefixes.Goals as goal

pub loop-others-preserved : goal.loop-others-preserved
loop-others-preserved c =
    let behind : Some c.in-Some.others.now ≡ after (prefix_sign c.args.prefix) c.loop-others.behind.now =
    c.in-Some.ensures ∙ ap (λ s. after s c.loop-others.behind.now) c.prefix_sign.ensures in
    let (t, is, front, rest) = prefixes_more c.args.prefix c.loop-others.behind.now c.in-Some.others.now (sym behind) in
    let (taken, dropped) = take_next c.loop-others.count c.args.rest.now c.in-Some.others.now t (sym is ∙ c.loop-others.invariant.rest) in
    let longer = ap length is in
    record {
      within = omega (arith, c.loop-others.invariant.within, longer);
      front = rw taken (append_assoc (take c.loop-others.count c.args.rest.now) (t ∷ []) (prefixes c.args.prefix c.in-Some.others.now)
          ∙ ap (λ l. take c.loop-others.count c.args.rest.now ++ l) (sym front) ∙ c.loop-others.invariant.front);
      rest = dropped;
      behind = sym rest ∙ c.loop-others.invariant.behind;
    }

pub returns-clause-front : goal.returns-clause-front
returns-clause-front c =
    let none : None ≡ after (prefix_sign c.args.prefix) c.loop-others.behind.now =
    c.in_default.ensures ∙ ap (λ s. after s c.loop-others.behind.now) c.prefix_sign.ensures in
    let (front, rest) = prefixes_end c.args.prefix c.loop-others.behind.now (sym none) in
    c.split_at.ensures.front ∙ sym (append-nil (take c.loop-others.count c.args.rest.now)) ∙ ap (λ l. take c.loop-others.count c.args.rest.now ++ l) (sym front)
    ∙ c.loop-others.invariant.front

pub returns-clause-behind : goal.returns-clause-behind
returns-clause-behind c =
    let none : None ≡ after (prefix_sign c.args.prefix) c.loop-others.behind.now =
    c.in_default.ensures ∙ ap (λ s. after s c.loop-others.behind.now) c.prefix_sign.ensures in
    let (front, rest) = prefixes_end c.args.prefix c.loop-others.behind.now (sym none) in
    sym rest ∙ c.loop-others.invariant.behind
