use Rattle.std.proofs.Common.{Bor, ◌≡◌, ℕ, ◌∷◌, [], List, length, sym, ap, ◌∙◌, arith}
use Rattle.sheet_syntax_trees.specs.declared.token.Token.{Token}
use Rattle.sheet_syntax_trees.specs.Reading.{◌>>=◌}
use Rattle.sheet_define_reading.specs.Reading.{with_front, more_names}
use Rattle.sheet_syntax.proofs.Loops.{passed}
use Rattle.sheet_define.proofs.Loops.{both_before, things_before, names_end, names_more, name_shorter, after_is}
use Rattle.sheet_define_reading.specs.declared.mark.Mark.TheVariants as mark
use Rattle.sheet_define.proofs.types.more_names.Goals as goal

pub returns-in-Err : goal.returns-in-Err
returns-in-Err c =
    passed (λ (x : List ℕ × Bor (List Token)). (x.0, x.1.now)) (λ (b : Bor (List Token)). (c.loop-behind.names, b.now)) c.in-Err.refusal _ _ c.in-Err.ensures
    (λ d h. sym c.loop-behind.invariant
    ∙ ap (with_front c.loop-behind.names) (names_more c.args.end c.loop-behind.remaining.now c.in-Some.behind.now (sym c.in-Some.ensures)
    ∙ ap (λ r. r >>= (λ name. with_front (name.0 ∷ []) (more_names c.args.end name.1))) h))

pub loop-behind-preserved : goal.loop-behind-preserved
loop-behind-preserved c =
    ap (λ l. with_front l (more_names c.args.end c.in-Ok.read.1.now)) c.in_ok-push.ensures.ok
    ∙ sym (both_before c.loop-behind.names (c.in-Ok.read.0 ∷ []) (more_names c.args.end c.in-Ok.read.1.now))
    ∙ ap (with_front c.loop-behind.names)
    (sym (names_more c.args.end c.loop-behind.remaining.now c.in-Some.behind.now (sym c.in-Some.ensures)
    ∙ ap (λ r. r >>= (λ name. with_front (name.0 ∷ []) (more_names c.args.end name.1))) c.in-Ok.ensures))
    ∙ c.loop-behind.invariant

pub loop-behind-smaller : goal.loop-behind-smaller
loop-behind-smaller c =
    let (t, is, test) = after_is mark.Dot c.loop-behind.remaining.now c.in-Some.behind.now (sym c.in-Some.ensures) in
    let long : length c.loop-behind.remaining.now ≡ length (t ∷ c.in-Some.behind.now) = ap length is in
    let short = name_shorter c.args.end c.in-Some.behind.now (c.in-Ok.read.0, c.in-Ok.read.1.now) c.in-Ok.ensures in
    omega arith

pub returns : goal.returns
returns c =
    sym c.loop-behind.invariant ∙ ap (with_front c.loop-behind.names) (names_end c.args.end c.loop-behind.remaining.now (sym c.in_default.ensures))
    ∙ things_before c.loop-behind.names c.loop-behind.remaining.now
