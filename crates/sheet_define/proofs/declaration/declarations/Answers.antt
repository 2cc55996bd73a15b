use Rattle.std.proofs.Common.{Bor, ℕ, ◌+◌, ◌-◌, List, length, sym, ap, ◌∙◌, subst, arith}
use Rattle.std.specs.Prelude.{Option}
use Rattle.sheet_syntax_trees.specs.declared.token.Token.{Token}
use Rattle.sheet_syntax_trees.specs.Tokens.{Reads}
use Rattle.sheet_syntax_trees.specs.Reading.{Answer, ◌>>=◌}
use Rattle.sheet_define_data.specs.declared.definition.Declaration.{Declaration}
use Rattle.sheet_define_reading.specs.Reading.{usual, all_before, declarations, found_list, turn_by}
use Rattle.sheet_syntax.proofs.Loops.{passed, no_tokens}
use Rattle.sheet_define.proofs.Loops.{whole_begun, declared_before, ended_at, over_at, turn_at, one_less}
use Rattle.sheet_define.proofs.declaration.declarations.Goals as goal

abbrev read : Option Declaration × ℕ × Bor (List Token) → Option Declaration × ℕ × List Token
read x = (x.0, x.1, x.2.now)

pub loop-init : goal.loop-init
loop-init c = whole_begun c.args.text_length c.args.tokens.now c.new-list.result c.new-list.ensures

pub returns-in_default : goal.returns-in_default
returns-in_default c =
    let s = usual c.args.text_length in
    let P : Answer (List Declaration) → Type 0 = λ told. Reads (λ ds. ds) c.ended.result told in
    subst P (ap (all_before c.loop.list)
    (sym (ended_at s 16 (length c.args.tokens.now - c.loop.counter) c.loop.«open» c.loop.remaining.now
    (no_tokens c.loop.remaining.now c.in_default.ensures.cases))) ∙ c.loop.invariant) c.ended.ensures

pub returns-in-Err : goal.returns-in-Err
returns-in-Err c =
    let s = usual c.args.text_length in
    let n = length c.args.tokens.now - c.loop.counter in
    let m = length c.args.tokens.now - (c.loop.counter + 1) in
    passed read (λ (ds : List Declaration). ds) c.in-Err.refusal _ _ c.in-Err.ensures
    (λ d h. sym c.loop.invariant
    ∙ ap (all_before c.loop.list)
    (turn_at s 16 n m c.loop.«open» c.in-Some.token.now c.loop.remaining.now c.in-Some.behind.now
    (one_less (length c.args.tokens.now) c.loop.counter c.loop-test.true) c.in-Some.ensures.cases.0
    ∙ ap (λ r. r >>= (λ x. all_before (found_list x.0) (declarations s 16 m x.1 x.2)))
    (ap (turn_by s 16 c.loop.«open» c.in-Some.token.now c.in-Some.behind.now) (sym c.mark_of.ensures) ∙ h)))

pub loop-preserved : goal.loop-preserved
loop-preserved c =
    let s = usual c.args.text_length in
    let n = length c.args.tokens.now - c.loop.counter in
    let m = length c.args.tokens.now - (c.loop.counter + 1) in
    let more = declarations s 16 m c.in-Ok.read.1 c.in-Ok.read.2.now in
    ap (λ l. all_before l more) c.in_ok-put.ensures
    ∙ sym (declared_before c.loop.list (found_list c.in-Ok.read.0) more)
    ∙ ap (all_before c.loop.list)
    (sym
    (turn_at s 16 n m c.loop.«open» c.in-Some.token.now c.loop.remaining.now c.in-Some.behind.now
    (one_less (length c.args.tokens.now) c.loop.counter c.loop-test.true) c.in-Some.ensures.cases.0
    ∙ ap (λ r. r >>= (λ x. all_before (found_list x.0) (declarations s 16 m x.1 x.2)))
    (ap (turn_by s 16 c.loop.«open» c.in-Some.token.now c.in-Some.behind.now) (sym c.mark_of.ensures) ∙ c.in-Ok.ensures)))
    ∙ c.loop.invariant

pub returns-in-None : goal.returns-in-None
returns-in-None c =
    let s = usual c.args.text_length in
    let P : Answer (List Declaration) → Type 0 = λ told. Reads (λ ds. ds) c.ended-in-None.result told in
    subst P (ap (all_before c.loop.list)
    (sym (ended_at s 16 (length c.args.tokens.now - c.loop.counter) c.loop.«open» c.loop.remaining.now
    (no_tokens c.loop.remaining.now c.in-None.ensures.cases))) ∙ c.loop.invariant) c.ended-in-None.ensures

pub returns-in-Some-split_first : goal.returns-in-Some-split_first
returns-in-Some-split_first c =
    sym c.loop.invariant
    ∙ ap (all_before c.loop.list)
    (over_at (usual c.args.text_length) 16 (length c.args.tokens.now - c.loop.counter) c.loop.«open» c.in-Some-split_first.token.now c.loop.remaining.now
    c.in-Some-split_first.field-0-1.now (omega (arith, c.loop-test.false)) c.in-Some-split_first.ensures.cases.0)
