use Rattle.std.proofs.Common.{Bor, rules, ◌≡◌, ℕ, ◌+◌, ◌-◌, List, length, Err, sym, ap, ◌∙◌, subst, arith}
use denote.Enum.Bare.{same_true, same_false}
use Rattle.sheet_syntax_trees.specs.declared.token.Token.{Token}
use Rattle.sheet_syntax_trees.specs.declared.token.SyntaxRefusal.TheVariants.{Expected, TooNested}
use Rattle.sheet_syntax_trees.specs.Tokens.{Reads}
use Rattle.sheet_define_data.specs.declared.statement.Statement.{Statement}
use Rattle.sheet_syntax_trees.specs.Reading.{Answer}
use Rattle.sheet_define_reading.specs.declared.mark.Mark.{Mark}
use Rattle.sheet_define_reading.specs.declared.mark.Mark.TheVariants as mark
use Rattle.sheet_define_reading.specs.contracts.mark.Mark.{the_type}
use Rattle.sheet_define_reading.specs.Marks.{mark_of}
use Rattle.sheet_define_reading.specs.Reading.{usual, with_front, many, statement_by, block}
use Rattle.sheet_syntax.proofs.Loops.{passed, no_tokens}
use Rattle.sheet_define.proofs.Loops.{many_over, many_none, many_ended, many_on, many_stopped, one_less, block_refused, block_over, block_on}
use Rattle.sheet_define.proofs.statement.+statements.Goals as goal

abbrev read : Statement × Bor (List Token) → Statement × List Token
read x = (x.0, x.1.now)

abbrev all_read : List Statement × Bor (List Token) → List Statement × List Token
all_read x = (x.0, x.1.now)

abbrev one : ℕ → ℕ → Token → List Token → Mark → Answer (Statement × List Token)
one length_ room = statement_by (usual length_) (λ behind. block (usual length_) room behind)

pub statements-returns-in_default : goal.statements-returns-in_default
statements-returns-in_default t c =
    sym c.loop.invariant
    ∙ ap (with_front c.loop.list) (many_none c.args.text_length (one c.args.text_length c.args.room) (length c.args.rest.now - c.loop.counter)
    c.loop.remaining.now (no_tokens c.loop.remaining.now c.in_default.ensures.cases))

pub statements-returns-then-eq : goal.statements-returns-then-eq
statements-returns-then-eq t c =
    let is : mark_of c.in-Some.token.now.kind ≡ mark.CloseBrace = sym c.mark_of-mark.ensures ∙ same_true the_type (search rules) _ _ (sym c.if-eq.ensures) in
    sym c.loop.invariant
    ∙ many_ended c.args.text_length (one c.args.text_length c.args.room) (length c.args.rest.now - c.loop.counter)
    (length c.args.rest.now - (c.loop.counter + 1)) c.in-Some.token.now c.loop.remaining.now c.in-Some.behind.now
    (one_less (length c.args.rest.now) c.loop.counter c.loop-test.true) c.in-Some.ensures.cases.0 is c.loop.list

pub statements-returns-in-Err : goal.statements-returns-in-Err
statements-returns-in-Err t c =
    passed read all_read c.in-Err.refusal _ _ c.in-Err.ensures
    (λ d h. sym c.loop.invariant
    ∙ many_stopped c.args.text_length (one c.args.text_length c.args.room) (length c.args.rest.now - c.loop.counter)
    (length c.args.rest.now - (c.loop.counter + 1)) c.in-Some.token.now c.loop.remaining.now c.in-Some.behind.now d
    (one_less (length c.args.rest.now) c.loop.counter c.loop-test.true) c.in-Some.ensures.cases.0
    (λ e. same_false the_type _ _ (sym c.if-eq.ensures) (c.mark_of-mark.ensures ∙ e))
    (ap (λ m. one c.args.text_length c.args.room c.in-Some.token.now c.in-Some.behind.now m) (sym c.mark_of-mark.ensures) ∙ h) c.loop.list)

pub statements-loop-preserved : goal.statements-loop-preserved
statements-loop-preserved t c =
    ap (λ l. with_front l (many c.args.text_length (one c.args.text_length c.args.room) (length c.args.rest.now - (c.loop.counter + 1)) c.in-Ok.read.1.now))
    c.in_ok-push.ensures.ok
    ∙ many_on c.args.text_length (one c.args.text_length c.args.room) (length c.args.rest.now - c.loop.counter) (length c.args.rest.now - (c.loop.counter + 1))
    c.in-Some.token.now c.loop.remaining.now c.in-Some.behind.now c.in-Ok.read.0 c.in-Ok.read.1.now
    (one_less (length c.args.rest.now) c.loop.counter c.loop-test.true) c.in-Some.ensures.cases.0
    (λ e. same_false the_type _ _ (sym c.if-eq.ensures) (c.mark_of-mark.ensures ∙ e))
    (ap (λ m. one c.args.text_length c.args.room c.in-Some.token.now c.in-Some.behind.now m) (sym c.mark_of-mark.ensures) ∙ c.in-Ok.ensures) c.loop.list
    ∙ c.loop.invariant

pub statements-returns : goal.statements-returns
statements-returns t c =
    sym c.loop.invariant
    ∙ ap (with_front c.loop.list) (many_over c.args.text_length (one c.args.text_length c.args.room) (length c.args.rest.now - c.loop.counter)
    c.loop.remaining.now (omega (arith, c.loop-test.false)))
    ∙ ap (λ o. Err (Expected o)) (sym c.offset.ensures)

pub block-returns-in-Err : goal.block-returns-in-Err
block-returns-in-Err t c =
    passed (λ (b : Bor (List Token)). b.now) all_read c.in-Err.refusal _ _ c.in-Err.ensures
    (λ d h. block_refused (usual c.args.end) c.args.room c.args.rest.now d h)

pub block-returns-then-room-eq0 : goal.block-returns-then-room-eq0
block-returns-then-room-eq0 t c =
    block_over (usual c.args.end) c.args.room c.args.rest.now c.in-Ok.behind.now c.if-room-eq0.true c.in-Ok.ensures
    ∙ ap (λ o. Err (TooNested o)) (sym c.offset.ensures)

pub block-returns : goal.block-returns
block-returns t c =
    let P : Answer (List Statement × List Token) → Type 0 = λ told. Reads all_read c.statements.result told in
    subst P (sym (block_on (usual c.args.end) c.args.room (c.args.room - 1) c.args.rest.now c.in-Ok.behind.now (omega (arith, c.if-room-eq0.false))
    c.in-Ok.ensures)) c.statements.ensures
