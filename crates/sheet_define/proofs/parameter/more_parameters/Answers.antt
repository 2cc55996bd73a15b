use Rattle.std.proofs.Common.{Bor, ◌+◌, ◌-◌, ◌∷◌, [], List, sym, ap, ◌∙◌, subst, arith}
use Rattle.sheet_syntax_trees.specs.declared.token.Token.{Token}
use Rattle.sheet_syntax_trees.specs.Tokens.{Reads}
use Rattle.sheet_syntax_trees.specs.Reading.{Answer, ◌>>=◌}
use Rattle.sheet_define_data.specs.declared.definition.Parameter.{Parameter}
use Rattle.sheet_define_reading.specs.Reading.{usual, with_front, more_parameters}
use Rattle.sheet_syntax.proofs.Loops.{passed}
use Rattle.sheet_define.proofs.Loops.{both_before, parameters_end, parameters_over, parameters_more, one_less}
use Rattle.sheet_define.proofs.parameter.more_parameters.Goals as goal

abbrev read : Parameter × Bor (List Token) → Parameter × List Token
read x = (x.0, x.1.now)

abbrev all_read : List Parameter × Bor (List Token) → List Parameter × List Token
all_read x = (x.0, x.1.now)

pub returns-in_default : goal.returns-in_default
returns-in_default c =
    let s = usual c.args.text_length in
    let P : Answer (List Parameter × List Token) → Type 0 = λ told. Reads all_read c.finished.result told in
    subst P
    (ap (with_front c.loop.list) (sym (parameters_end s (15 - c.loop.counter) c.loop.remaining.now (sym c.in_default.ensures))) ∙ c.loop.invariant)
    c.finished.ensures

pub returns-in-Err : goal.returns-in-Err
returns-in-Err c =
    let s = usual c.args.text_length in
    passed read all_read c.in-Err.refusal _ _ c.in-Err.ensures
    (λ d h. sym c.loop.invariant
    ∙ ap (with_front c.loop.list)
    (parameters_more s (15 - c.loop.counter) (15 - (c.loop.counter + 1)) c.loop.remaining.now c.in-Some.behind.now (one_less 15 c.loop.counter c.loop-test.true)
    (sym c.in-Some.ensures)
    ∙ ap (λ r. r >>= (λ p. with_front (p.0 ∷ []) (more_parameters s (15 - (c.loop.counter + 1)) p.1))) h))

pub loop-preserved : goal.loop-preserved
loop-preserved c =
    let s = usual c.args.text_length in
    ap (λ l. with_front l (more_parameters s (15 - (c.loop.counter + 1)) c.in-Ok.read.1.now)) c.in_ok-push-2.ensures.ok
    ∙ sym (both_before c.loop.list (c.in-Ok.read.0 ∷ []) (more_parameters s (15 - (c.loop.counter + 1)) c.in-Ok.read.1.now))
    ∙ ap (with_front c.loop.list)
    (sym
    (parameters_more s (15 - c.loop.counter) (15 - (c.loop.counter + 1)) c.loop.remaining.now c.in-Some.behind.now (one_less 15 c.loop.counter c.loop-test.true)
    (sym c.in-Some.ensures)
    ∙ ap (λ r. r >>= (λ p. with_front (p.0 ∷ []) (more_parameters s (15 - (c.loop.counter + 1)) p.1))) c.in-Ok.ensures))
    ∙ c.loop.invariant

pub returns : goal.returns
returns c =
    let s = usual c.args.text_length in
    let P : Answer (List Parameter × List Token) → Type 0 = λ told. Reads all_read c.finished-2.result told in
    subst P
    (ap (with_front c.loop.list) (sym (parameters_over s (15 - c.loop.counter) c.loop.remaining.now (omega (arith, c.loop-test.false)))) ∙ c.loop.invariant)
    c.finished-2.ensures
