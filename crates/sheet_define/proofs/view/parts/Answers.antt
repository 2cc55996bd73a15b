use Rattle.std.proofs.Common.{Bor, rules, ◌≡◌, ℕ, ◌+◌, ◌-◌, List, length, Err, sym, ap, ◌∙◌, arith}
use denote.Enum.Bare.{same_true, same_false}
use Rattle.sheet_syntax_trees.specs.declared.token.Token.{Token}
use Rattle.sheet_syntax_trees.specs.declared.token.SyntaxRefusal.TheVariants.{Expected}
use Rattle.sheet_define_data.specs.declared.definition.Part.{Part}
use Rattle.sheet_syntax_trees.specs.Reading.{Answer}
use Rattle.sheet_define_reading.specs.declared.mark.Mark.{Mark}
use Rattle.sheet_define_reading.specs.declared.mark.Mark.TheVariants as mark
use Rattle.sheet_define_reading.specs.contracts.mark.Mark.{the_type}
use Rattle.sheet_define_reading.specs.Marks.{mark_of}
use Rattle.sheet_define_reading.specs.Reading.{usual, with_front, many, part_by}
use Rattle.sheet_syntax.proofs.Loops.{passed, no_tokens}
use Rattle.sheet_define.proofs.Loops.{many_over, many_none, many_ended, many_on, many_stopped, one_less}
use Rattle.sheet_define.proofs.view.parts.Goals as goal

abbrev read : Part × Bor (List Token) → Part × List Token
read x = (x.0, x.1.now)

abbrev all_read : List Part × Bor (List Token) → List Part × List Token
all_read x = (x.0, x.1.now)

abbrev one : ℕ → Token → List Token → Mark → Answer (Part × List Token)
one length_ = part_by (usual length_)

pub returns-in_default : goal.returns-in_default
returns-in_default c =
    sym c.loop.invariant
    ∙ ap (with_front c.loop.list) (many_none c.args.text_length (one c.args.text_length) (length c.args.rest.now - c.loop.counter) c.loop.remaining.now
    (no_tokens c.loop.remaining.now c.in_default.ensures.cases))

pub returns-then-eq : goal.returns-then-eq
returns-then-eq c =
    let is : mark_of c.in-Some.token.now.kind ≡ mark.CloseBrace = sym c.mark_of-mark.ensures ∙ same_true the_type (search rules) _ _ (sym c.if-eq.ensures) in
    sym c.loop.invariant
    ∙ many_ended c.args.text_length (one c.args.text_length) (length c.args.rest.now - c.loop.counter) (length c.args.rest.now - (c.loop.counter + 1))
    c.in-Some.token.now c.loop.remaining.now c.in-Some.behind.now
    (one_less (length c.args.rest.now) c.loop.counter c.loop-test.true) c.in-Some.ensures.cases.0 is c.loop.list

pub returns-in-Err : goal.returns-in-Err
returns-in-Err c =
    passed read all_read c.in-Err.refusal _ _ c.in-Err.ensures
    (λ d h. sym c.loop.invariant
    ∙ many_stopped c.args.text_length (one c.args.text_length) (length c.args.rest.now - c.loop.counter) (length c.args.rest.now - (c.loop.counter + 1))
    c.in-Some.token.now c.loop.remaining.now c.in-Some.behind.now d
    (one_less (length c.args.rest.now) c.loop.counter c.loop-test.true) c.in-Some.ensures.cases.0
    (λ e. same_false the_type _ _ (sym c.if-eq.ensures) (c.mark_of-mark.ensures ∙ e))
    (ap (λ m. one c.args.text_length c.in-Some.token.now c.in-Some.behind.now m) (sym c.mark_of-mark.ensures) ∙ h) c.loop.list)

pub loop-preserved : goal.loop-preserved
loop-preserved c =
    ap (λ l. with_front l (many c.args.text_length (one c.args.text_length) (length c.args.rest.now - (c.loop.counter + 1)) c.in-Ok.read.1.now))
    c.in_ok-push.ensures.ok
    ∙ many_on c.args.text_length (one c.args.text_length) (length c.args.rest.now - c.loop.counter) (length c.args.rest.now - (c.loop.counter + 1))
    c.in-Some.token.now c.loop.remaining.now c.in-Some.behind.now c.in-Ok.read.0 c.in-Ok.read.1.now
    (one_less (length c.args.rest.now) c.loop.counter c.loop-test.true) c.in-Some.ensures.cases.0
    (λ e. same_false the_type _ _ (sym c.if-eq.ensures) (c.mark_of-mark.ensures ∙ e))
    (ap (λ m. one c.args.text_length c.in-Some.token.now c.in-Some.behind.now m) (sym c.mark_of-mark.ensures) ∙ c.in-Ok.ensures) c.loop.list
    ∙ c.loop.invariant

pub returns : goal.returns
returns c =
    sym c.loop.invariant
    ∙ ap (with_front c.loop.list) (many_over c.args.text_length (one c.args.text_length) (length c.args.rest.now - c.loop.counter) c.loop.remaining.now
    (omega (arith, c.loop-test.false)))
    ∙ ap (λ o. Err (Expected o)) (sym c.offset.ensures)
