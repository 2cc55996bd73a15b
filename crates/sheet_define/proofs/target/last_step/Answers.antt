use Rattle.std.proofs.Common.{Bor, ◌≡◌, ℕ, ◌+◌, ◌-◌, ◌<◌, ◌∷◌, List, length, Some, None, Ok, Err, sym, ap, ◌∙◌, arith}
use Rattle.sheet_syntax_trees.specs.declared.token.Token.{Token}
use Rattle.sheet_syntax_trees.specs.declared.token.SyntaxRefusal.TheVariants.{Expected}
use Rattle.sheet_syntax_trees.specs.declared.tree.Tree.{Tree}
use Rattle.sheet_syntax_trees.specs.declared.tree.Formed.{Formed}
use Rattle.sheet_syntax_trees.specs.Reading.{Answer, ◌>>=◌, made, or_expected, step_of}
use Rattle.sheet_define_data.specs.declared.statement.Target.{Target}
use Rattle.sheet_define_reading.specs.Reading.{Bounds, usual, last_step, step_by, alone, expect}
use Rattle.sheet_define_reading.specs.declared.mark.Mark.TheVariants as mark
use Rattle.sheet_syntax.proofs.Loops.{passed, no_tokens}
use Rattle.sheet_define.proofs.Loops.{last_over, last_ok, last_refused, step_lone, step_cut, step_on, one_less}
use Rattle.sheet_define.proofs.target.last_step.Goals as goal

abbrev read : Target × Bor (List Token) → Target × List Token
read x = (x.0, x.1.now)

pub returns-in-Err : goal.returns-in-Err
returns-in-Err c =
    let n = length c.args.rest.now in
    passed (λ (b : Bor (List Token)). b.now) read c.in-Err.refusal _ _ c.in-Err.ensures
    (λ d h. sym c.loop.invariant ∙ last_refused (usual c.args.text_length) (n - c.loop.counter) (n - (c.loop.counter + 1)) c.args.at c.args.line c.loop.formed
    c.loop.remaining.now d (one_less n c.loop.counter c.loop-test.true) h)

-- one turn, where a dot stands
turned : (s : Bounds) (n k at line : ℕ) (f : Formed) (ts a : List Token) → k < n → ◌≡◌ {A = Answer (List Token)} (expect s.end mark.Dot ts) (Ok a) →
    last_step s (n - k) at line f ts ≡ step_by s at line f a (alone a) (λ g rest. last_step s (n - (k + 1)) at line g rest)
turned s n k at line f ts a h e = last_ok s (n - k) (n - (k + 1)) at line f ts a (one_less n k h) e

-- one turn, where a step stands behind it
stepped : (s : Bounds) (n k at line : ℕ) (f : Formed) (ts a us : List Token) (t : Token) → k < n →
    ◌≡◌ {A = Answer (List Token)} (expect s.end mark.Dot ts) (Ok a) → alone a ≡ None → a ≡ t ∷ us
    → last_step s (n - k) at line f
    ts ≡ (or_expected t.start (step_of line f.tree t.kind) >>= (λ form. made s.depth at form f.depth >>= (λ g. last_step s (n - (k + 1)) at line g us)))
stepped s n k at line f ts a us t h e lone is =
    turned s n k at line f ts a h e ∙ step_on s at line f a (λ g rest. last_step s (n - (k + 1)) at line g rest) t us lone is

pub returns-in-Some : goal.returns-in-Some
returns-in-Some c =
    let s = usual c.args.text_length in
    let n = length c.args.rest.now in
    sym c.loop.invariant ∙ turned s n c.loop.counter c.args.at c.args.line c.loop.formed c.loop.remaining.now c.in-Ok.behind.now c.loop-test.true
    c.in-Ok.ensures
    ∙ step_lone s c.args.at c.args.line c.loop.formed c.in-Ok.behind.now (λ g rest. last_step s (n - (c.loop.counter + 1)) c.args.at c.args.line g rest)
    (c.in-Some.name.now, c.in-Some.others.now) (sym c.in-Some.ensures)
    ∙ ap (λ name. Ok (record { line = c.args.line; object = Some c.loop.formed.tree; column = name }, c.in-Some.others.now)) (sym c.in_ok-column.ensures)

pub returns-in_default-split_first : goal.returns-in_default-split_first
returns-in_default-split_first c =
    let s = usual c.args.text_length in
    let n = length c.args.rest.now in
    sym c.loop.invariant ∙ turned s n c.loop.counter c.args.at c.args.line c.loop.formed c.loop.remaining.now c.in-Ok.behind.now c.loop-test.true
    c.in-Ok.ensures
    ∙ step_cut s c.args.at c.args.line c.loop.formed c.in-Ok.behind.now (λ g rest. last_step s (n - (c.loop.counter + 1)) c.args.at c.args.line g rest)
    (no_tokens c.in-Ok.behind.now c.in_default-split_first.ensures.cases)

pub returns-in-Err-step : goal.returns-in-Err-step
returns-in-Err-step c =
    let s = usual c.args.text_length in
    let n = length c.args.rest.now in
    passed (λ (t : Tree). t) read c.in-Err-step.refusal _ _ c.in-Err-step.ensures
    (λ d h. sym c.loop.invariant
    ∙ stepped s n c.loop.counter c.args.at c.args.line c.loop.formed c.loop.remaining.now c.in-Ok.behind.now c.in-Some-split_first.others.now
    c.in-Some-split_first.token.now c.loop-test.true c.in-Ok.ensures (sym c.in_default.ensures) c.in-Some-split_first.ensures.cases.0
    ∙ ap (λ r. r >>= (λ form.
    made 32 c.args.at form c.loop.formed.depth >>= (λ g. last_step s (n - (c.loop.counter + 1)) c.args.at c.args.line g c.in-Some-split_first.others.now)))
    h)

pub returns-in-Err-made : goal.returns-in-Err-made
returns-in-Err-made c =
    let s = usual c.args.text_length in
    let n = length c.args.rest.now in
    passed (λ (f : Formed). f) read c.in-Err-made.refusal _ _ c.in-Err-made.ensures
    (λ d h. sym c.loop.invariant
    ∙ stepped s n c.loop.counter c.args.at c.args.line c.loop.formed c.loop.remaining.now c.in-Ok.behind.now c.in-Some-split_first.others.now
    c.in-Some-split_first.token.now c.loop-test.true c.in-Ok.ensures (sym c.in_default.ensures) c.in-Some-split_first.ensures.cases.0
    ∙ ap (λ r. r >>= (λ form.
    made 32 c.args.at form c.loop.formed.depth >>= (λ g. last_step s (n - (c.loop.counter + 1)) c.args.at c.args.line g c.in-Some-split_first.others.now)))
    c.in-Ok-step.ensures
    ∙ ap (λ r. r >>= (λ g. last_step s (n - (c.loop.counter + 1)) c.args.at c.args.line g c.in-Some-split_first.others.now)) h)

pub loop-preserved : goal.loop-preserved
loop-preserved c =
    let s = usual c.args.text_length in
    let n = length c.args.rest.now in
    sym
    (stepped s n c.loop.counter c.args.at c.args.line c.loop.formed c.loop.remaining.now c.in-Ok.behind.now c.in-Some-split_first.others.now
    c.in-Some-split_first.token.now c.loop-test.true c.in-Ok.ensures (sym c.in_default.ensures) c.in-Some-split_first.ensures.cases.0
    ∙ ap (λ r. r >>= (λ form.
    made 32 c.args.at form c.loop.formed.depth >>= (λ g. last_step s (n - (c.loop.counter + 1)) c.args.at c.args.line g c.in-Some-split_first.others.now)))
    c.in-Ok-step.ensures
    ∙ ap (λ r. r >>= (λ g. last_step s (n - (c.loop.counter + 1)) c.args.at c.args.line g c.in-Some-split_first.others.now)) c.in-Ok-made.ensures)
    ∙ c.loop.invariant

pub returns : goal.returns
returns c =
    sym c.loop.invariant ∙ last_over (usual c.args.text_length) (length c.args.rest.now - c.loop.counter) c.args.at c.args.line c.loop.formed
    c.loop.remaining.now (omega (arith, c.loop-test.false)) ∙ ap (λ o. Err (Expected o)) (sym c.offset.ensures)
