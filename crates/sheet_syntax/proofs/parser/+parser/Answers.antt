use Rattle.std.proofs.Common.{Bor, ◌≡◌, ◌+◌, ◌-◌, ◌<◌, ◌≤◌, ◌∷◌, [], ◌++◌, List, length, Some, None, Ok, Err, sym, ap, ◌∙◌, subst, refl, arith}
use Rattle.sheet_syntax_trees.specs.declared.token.Token.{Token}
use Rattle.sheet_syntax_trees.specs.declared.tree.Formed.{Formed}
use Rattle.sheet_syntax_trees.specs.declared.token.SyntaxRefusal.TheVariants.{Expected}
use Rattle.sheet_syntax.specs.declared.parser.Room.{Room}
use Rattle.sheet_syntax_trees.specs.Signs.{sign_of}
use Rattle.sheet_syntax_trees.specs.Operators.{operator_among}
use Rattle.sheet_syntax_trees.specs.Reading.{setting, operand_at, chain_at, with_rest, within, parts, operation}
use Rattle.sheet_syntax.proofs.Loops.{passed, no_tokens}
use Rattle.sheet_syntax.proofs.Chains.{one_less, chain_refused, chain_begun, more_out, more_end, more_other, more_refused, more_too_deep, more_on, more_once}
use Rattle.sheet_syntax.proofs.Chains.{parts_out, parts_closed, parts_refused, parts_stopped, parts_on}
use Rattle.sheet_syntax_trees.specs.declared.operators.Level.TheVariants as level
use Rattle.sheet_syntax.specs.declared.waiting.OpenIf.{OpenIf}
use Rattle.sheet_syntax.specs.declared.waiting.Resumed.{Resumed}
use Rattle.sheet_syntax.specs.Waiting.{resumed_by, Resumes}
use Rattle.sheet_syntax.proofs.Ifs.{begun, no_turns, turned, turn_refused, chain_shorter, resume_refused, shorter_still, whole_told}
use Rattle.sheet_syntax.proofs.parser.+parser.Goals as goal

abbrev read : Formed × Bor (List Token) → Formed × List Token
read x = (x.0, x.1.now)

pub chain-returns-in-Err : goal.chain-returns-in-Err
chain-returns-in-Err t c =
    let s = setting 32 c.args.room.end c.args.room.turns c.args.room.brackets in
    passed read read c.in-Err.refusal (operand_at s c.args.level c.args.rest.now) (chain_at s c.args.level c.args.rest.now) c.in-Err.ensures
    (λ d h. chain_refused s c.args.level c.args.rest.now d h)

pub chain-loop-init : goal.chain-loop-init
chain-loop-init t c =
    let s = setting 32 c.args.room.end c.args.room.turns c.args.room.brackets in
    let whole : length c.in-Ok.read.1.now - 0 ≡ length c.in-Ok.read.1.now = omega arith in
    rw (whole, c.offset-at.ensures, c.line_of-line.ensures) (chain_begun s c.args.level c.args.rest.now (c.in-Ok.read.0, c.in-Ok.read.1.now) c.in-Ok.ensures)

pub chain-returns-in_default : goal.chain-returns-in_default
chain-returns-in_default t c =
    let s = setting 32 c.args.room.end c.args.room.turns c.args.room.brackets in
    sym c.loop.invariant ∙ more_end s c.args.level (operand_at s c.args.level) (length c.in-Ok.read.1.now - c.loop.counter) c.offset-at.result
    c.line_of-line.result c.loop.formed c.loop.remaining.now (no_tokens c.loop.remaining.now c.in_default.ensures.cases)

pub chain-returns-in_default-operator_among : goal.chain-returns-in_default-operator_among
chain-returns-in_default-operator_among t c =
    let s = setting 32 c.args.room.end c.args.room.turns c.args.room.brackets in
    let none : operator_among c.args.level (sign_of c.in-Some.token.now.kind) ≡ None =
    sym (c.in_default-operator_among.ensures ∙ ap (operator_among c.args.level) c.sign_of.ensures) in
    sym c.loop.invariant ∙ more_other s c.args.level (operand_at s c.args.level) (length c.in-Ok.read.1.now - c.loop.counter) c.offset-at.result
    c.line_of-line.result c.loop.formed c.loop.remaining.now c.in-Some.others.now c.in-Some.token.now c.in-Some.ensures.cases.0 none

pub chain-returns-in-Err-operand : goal.chain-returns-in-Err-operand
chain-returns-in-Err-operand t c =
    let s = setting 32 c.args.room.end c.args.room.turns c.args.room.brackets in
    let some : operator_among c.args.level (sign_of c.in-Some.token.now.kind) ≡ Some c.in-Some-operator_among.operator =
    sym (c.in-Some-operator_among.ensures ∙ ap (operator_among c.args.level) c.sign_of.ensures) in
    passed read read c.in-Err-operand.refusal (operand_at s c.args.level c.in-Some.others.now) (chain_at s c.args.level c.args.rest.now)
    c.in-Err-operand.ensures
    (λ d h. sym c.loop.invariant ∙ more_refused s c.args.level (operand_at s c.args.level) (length c.in-Ok.read.1.now - c.loop.counter)
    (length c.in-Ok.read.1.now - (c.loop.counter + 1)) c.offset-at.result c.line_of-line.result c.loop.formed
    c.loop.remaining.now c.in-Some.others.now c.in-Some.token.now c.in-Some-operator_among.operator d
    (one_less (length c.in-Ok.read.1.now) c.loop.counter c.loop-test.true) c.in-Some.ensures.cases.0 some h)

pub chain-returns-in-Err-operation : goal.chain-returns-in-Err-operation
chain-returns-in-Err-operation t c =
    let s = setting 32 c.args.room.end c.args.room.turns c.args.room.brackets in
    let some : operator_among c.args.level (sign_of c.in-Some.token.now.kind) ≡ Some c.in-Some-operator_among.operator =
    sym (c.in-Some-operator_among.ensures ∙ ap (operator_among c.args.level) c.sign_of.ensures) in
    passed (λ (f : Formed). f) read c.in-Err-operation.refusal
    (operation 32 c.offset-at.result c.line_of-line.result c.in-Some-operator_among.operator c.loop.formed c.in-Ok-operand.read.0)
    (chain_at s c.args.level c.args.rest.now) c.in-Err-operation.ensures
    (λ d h. sym c.loop.invariant ∙ more_too_deep s c.args.level (operand_at s c.args.level) (length c.in-Ok.read.1.now - c.loop.counter)
    (length c.in-Ok.read.1.now - (c.loop.counter + 1)) c.offset-at.result c.line_of-line.result c.loop.formed
    c.loop.remaining.now c.in-Some.others.now c.in-Some.token.now c.in-Some-operator_among.operator (c.in-Ok-operand.read.0, c.in-Ok-operand.read.1.now) d
    (one_less (length c.in-Ok.read.1.now) c.loop.counter c.loop-test.true) c.in-Some.ensures.cases.0 some
    c.in-Ok-operand.ensures h)

pub chain-returns-then-not-repeats : goal.chain-returns-then-not-repeats
chain-returns-then-not-repeats t c =
    let s = setting 32 c.args.room.end c.args.room.turns c.args.room.brackets in
    let some : operator_among c.args.level (sign_of c.in-Some.token.now.kind) ≡ Some c.in-Some-operator_among.operator =
    sym (c.in-Some-operator_among.ensures ∙ ap (operator_among c.args.level) c.sign_of.ensures) in
    sym c.loop.invariant ∙ more_once s c.args.level (operand_at s c.args.level) (length c.in-Ok.read.1.now - c.loop.counter)
    (length c.in-Ok.read.1.now - (c.loop.counter + 1)) c.offset-at.result c.line_of-line.result c.loop.formed c.in-Ok-operation.longer
    c.loop.remaining.now c.in-Some.others.now c.in-Some.token.now c.in-Some-operator_among.operator (c.in-Ok-operand.read.0, c.in-Ok-operand.read.1.now)
    (one_less (length c.in-Ok.read.1.now) c.loop.counter c.loop-test.true) c.in-Some.ensures.cases.0 some
    c.in-Ok-operand.ensures c.in-Ok-operation.ensures (sym c.repeats.ensures ∙ c.if-not-repeats.true)

pub chain-loop-preserved : goal.chain-loop-preserved
chain-loop-preserved t c =
    let s = setting 32 c.args.room.end c.args.room.turns c.args.room.brackets in
    let some : operator_among c.args.level (sign_of c.in-Some.token.now.kind) ≡ Some c.in-Some-operator_among.operator =
    sym (c.in-Some-operator_among.ensures ∙ ap (operator_among c.args.level) c.sign_of.ensures) in
    sym (more_on s c.args.level (operand_at s c.args.level) (length c.in-Ok.read.1.now - c.loop.counter) (length c.in-Ok.read.1.now - (c.loop.counter + 1))
    c.offset-at.result c.line_of-line.result c.loop.formed c.in-Ok-operation.longer
    c.loop.remaining.now c.in-Some.others.now c.in-Some.token.now c.in-Some-operator_among.operator (c.in-Ok-operand.read.0, c.in-Ok-operand.read.1.now)
    (one_less (length c.in-Ok.read.1.now) c.loop.counter c.loop-test.true) c.in-Some.ensures.cases.0 some
    c.in-Ok-operand.ensures c.in-Ok-operation.ensures (sym c.repeats.ensures ∙ c.if-not-repeats.false))
    ∙ c.loop.invariant

pub chain-returns : goal.chain-returns
chain-returns t c =
    let s = setting 32 c.args.room.end c.args.room.turns c.args.room.brackets in
    sym c.loop.invariant ∙ more_out s c.args.level (operand_at s c.args.level) (length c.in-Ok.read.1.now - c.loop.counter) c.offset-at.result
    c.line_of-line.result c.loop.formed c.loop.remaining.now (omega (arith, c.loop-test.false))

pub parts-returns-in-Ok : goal.parts-returns-in-Ok
parts-returns-in-Ok t c =
    let s = setting 32 c.args.room.end c.args.room.turns c.args.room.brackets in
    sym c.loop.invariant ∙ parts_closed s (length c.args.rest.now - c.loop.counter) (length c.args.rest.now - (c.loop.counter + 1)) c.args.token.now
    c.loop.trees c.loop.deepest c.loop.remaining.now c.in-Some.behind.now
    (one_less (length c.args.rest.now) c.loop.counter c.loop-test.true) (sym c.in-Some.ensures) ∙ ap (with_rest c.in-Some.behind.now) c.in-Ok.ensures

pub parts-returns-in-Err : goal.parts-returns-in-Err
parts-returns-in-Err t c =
    let s = setting 32 c.args.room.end c.args.room.turns c.args.room.brackets in
    passed (λ (f : Formed). f) read c.in-Err.refusal _ _ c.in-Err.ensures
    (λ d h. sym c.loop.invariant ∙ parts_closed s (length c.args.rest.now - c.loop.counter) (length c.args.rest.now - (c.loop.counter + 1)) c.args.token.now
    c.loop.trees c.loop.deepest c.loop.remaining.now c.in-Some.behind.now
    (one_less (length c.args.rest.now) c.loop.counter c.loop-test.true) (sym c.in-Some.ensures) ∙ ap (with_rest c.in-Some.behind.now) h)

pub parts-returns-in-Err-expect : goal.parts-returns-in-Err-expect
parts-returns-in-Err-expect t c =
    let s = setting 32 c.args.room.end c.args.room.turns c.args.room.brackets in
    passed (λ (b : Bor (List Token)). b.now) read c.in-Err-expect.refusal _ _ c.in-Err-expect.ensures
    (λ d h. sym c.loop.invariant ∙ parts_refused s (length c.args.rest.now - c.loop.counter) (length c.args.rest.now - (c.loop.counter + 1)) c.args.token.now
    c.loop.trees c.loop.deepest c.loop.remaining.now d
    (one_less (length c.args.rest.now) c.loop.counter c.loop-test.true) (sym c.in_default.ensures) h)

pub parts-returns-in-Err-nested_expression : goal.parts-returns-in-Err-nested_expression
parts-returns-in-Err-nested_expression t c =
    let s = setting 32 c.args.room.end c.args.room.turns c.args.room.brackets in
    let room : within 32 c.inside.result.end c.inside.result.turns c.inside.result.brackets c.in-Ok-expect.behind.now ≡ s.inner c.in-Ok-expect.behind.now =
    ap (λ (r : Room). within 32 r.end r.turns r.brackets c.in-Ok-expect.behind.now) c.inside.ensures in
    passed read read c.in-Err-nested_expression.refusal (within 32 c.inside.result.end c.inside.result.turns c.inside.result.brackets c.in-Ok-expect.behind.now)
    (parts s (length c.args.rest.now) c.args.token.now (c.args.first.tree ∷ []) c.args.first.depth c.args.rest.now) c.in-Err-nested_expression.ensures
    (λ d h. sym c.loop.invariant ∙ parts_stopped s (length c.args.rest.now - c.loop.counter) (length c.args.rest.now - (c.loop.counter + 1)) c.args.token.now
    c.loop.trees c.loop.deepest c.loop.remaining.now c.in-Ok-expect.behind.now d
    (one_less (length c.args.rest.now) c.loop.counter c.loop-test.true) c.in-Ok-expect.ensures (sym room ∙ h))

pub parts-loop-preserved : goal.parts-loop-preserved
parts-loop-preserved t c =
    let s = setting 32 c.args.room.end c.args.room.turns c.args.room.brackets in
    let m = length c.args.rest.now - (c.loop.counter + 1) in
    let room : within 32 c.inside.result.end c.inside.result.turns c.inside.result.brackets c.in-Ok-expect.behind.now ≡ s.inner c.in-Ok-expect.behind.now =
    ap (λ (r : Room). within 32 r.end r.turns r.brackets c.in-Ok-expect.behind.now) c.inside.ensures in
    ap (λ l. parts s m c.args.token.now l c.max-deepest.result c.in-Ok-nested_expression.others.now) c.in_ok-push-in-Ok-nested_expression.ensures.ok
    ∙ ap (λ n. parts s m c.args.token.now (c.loop.trees ++ c.in-Ok-nested_expression.part.tree ∷ []) n c.in-Ok-nested_expression.others.now)
    c.max-deepest.ensures
    ∙ sym (parts_on s (length c.args.rest.now - c.loop.counter) m c.args.token.now c.loop.trees c.loop.deepest c.loop.remaining.now c.in-Ok-expect.behind.now
    (c.in-Ok-nested_expression.part, c.in-Ok-nested_expression.others.now)
    (one_less (length c.args.rest.now) c.loop.counter c.loop-test.true) c.in-Ok-expect.ensures (sym room ∙ c.in-Ok-nested_expression.ensures))
    ∙ c.loop.invariant

pub parts-returns : goal.parts-returns
parts-returns t c =
    let s = setting 32 c.args.room.end c.args.room.turns c.args.room.brackets in
    sym c.loop.invariant ∙ parts_out s (length c.args.rest.now - c.loop.counter) c.args.token.now c.loop.trees c.loop.deepest c.loop.remaining.now
    (omega (arith, c.loop-test.false)) ∙ ap (λ o. Err (Expected o)) (sym c.offset.ensures)

pub nested_expression-loop-alloc-preserved-in-Some : goal.nested_expression-loop-alloc-preserved-in-Some
nested_expression-loop-alloc-preserved-in-Some t c =
    let P : List OpenIf →
    Type 0 = λ ws. resumed_by c.args.room.end c.args.room.turns c.args.room.brackets ws
    (within 32 c.args.room.end (c.args.room.turns - length ws) c.args.room.brackets c.in-Some.behind.now) ≡ within 32 c.args.room.end c.args.room.turns
    c.args.room.brackets c.args.rest.now in
    let some : length c.loop-alloc.waiting.items < c.args.room.turns = let e = c.len.ensures in let w = c.loop-alloc-test.true in
    let k = c.loop-alloc.waiting.ok.0 in omega (arith, e, w, k) in
    subst P (sym c.in_ok-push.ensures.items)
    (begun c.args.room.end c.args.room.turns c.args.room.brackets c.loop-alloc.waiting.items c.in-Some.token.now c.loop-alloc.remaining.now c.in-Some.behind.now
    some c.in-Some.ensures.found.0 c.in-Some.ensures.found.1 ∙ c.loop-alloc.invariant)

pub nested_expression-returns-in-Err : goal.nested_expression-returns-in-Err
nested_expression-returns-in-Err t c =
    let some : length c.loop-alloc.waiting.items < c.args.room.turns = let e = c.len.ensures in let w = c.loop-alloc-test.true in
    let k = c.loop-alloc.waiting.ok.0 in omega (arith, e, w, k) in
    let count : c.after_turns-inner.result ≡ record {
      end = c.args.room.end;
      brackets = c.args.room.brackets;
      turns =
          c.args.room.turns - (length c.loop-alloc.waiting.items + 1);
    } =
    c.after_turns-inner.ensures ∙ ap (λ n. record { end = c.args.room.end; brackets = c.args.room.brackets; turns = c.args.room.turns - (n + 1) })
    (c.len-in_default.ensures ∙ (let k = c.loop-alloc.waiting.ok.0 in omega (arith, k))) in
    passed read read c.in-Err.refusal (chain_at (setting 32 c.after_turns-inner.result.end c.after_turns-inner.result.turns c.after_turns-inner.result.brackets)
    level.Or c.loop-alloc.remaining.now)
    (within 32 c.args.room.end c.args.room.turns c.args.room.brackets c.args.rest.now) c.in-Err.ensures
    (λ d h. sym c.loop-alloc.invariant
    ∙ turn_refused c.args.room.end c.args.room.turns c.args.room.brackets c.loop-alloc.waiting.items c.loop-alloc.remaining.now c.after_turns-inner.result d
    some (c.in_default.ensures.other refl) count h)

pub nested_expression-returns-in-Whole : goal.nested_expression-returns-in-Whole
nested_expression-returns-in-Whole t c =
    let some : length c.loop-alloc.waiting.items < c.args.room.turns = let e = c.len.ensures in let w = c.loop-alloc-test.true in
    let k = c.loop-alloc.waiting.ok.0 in omega (arith, e, w, k) in
    let count : c.after_turns-inner.result ≡ record {
      end = c.args.room.end;
      brackets = c.args.room.brackets;
      turns =
          c.args.room.turns - (length c.loop-alloc.waiting.items + 1);
    } =
    c.after_turns-inner.ensures ∙ ap (λ n. record { end = c.args.room.end; brackets = c.args.room.brackets; turns = c.args.room.turns - (n + 1) })
    (c.len-in_default.ensures ∙ (let k = c.loop-alloc.waiting.ok.0 in omega (arith, k))) in
    sym c.loop-alloc.invariant
    ∙ turned c.args.room.end c.args.room.turns c.args.room.brackets c.loop-alloc.waiting.items c.loop-alloc.remaining.now c.after_turns-inner.result
    (read c.in-Ok.read) some (c.in_default.ensures.other refl) count c.in-Ok.ensures
    ∙ whole_told c.args.room.end c.args.room.turns c.args.room.brackets c.resume.new.waiting.items c.in-Ok.read.1.now c.in-Ok-resume.resumed c.in-Whole.whole _
    c.in-Ok-resume.ensures c.in-Whole.is

pub nested_expression-loop-alloc-smaller : goal.nested_expression-loop-alloc-smaller
nested_expression-loop-alloc-smaller t c =
    let short = chain_shorter c.after_turns-inner.result.end c.after_turns-inner.result.turns c.after_turns-inner.result.brackets c.loop-alloc.remaining.now
    (read c.in-Ok.read) c.in-Ok.ensures in
    let P : Resumed →
    Type 0 = λ z. Resumes c.args.room.end c.args.room.turns c.args.room.brackets c.resume.new.waiting.items c.in-Ok.read.1.now (Ok z)
    (resumed_by c.args.room.end c.args.room.turns c.args.room.brackets c.loop-alloc.waiting.items (Ok (read c.in-Ok.read))) in
    let told = subst P c.in-Part.is c.in-Ok-resume.ensures in
    let less : length c.in-Part.behind.now < length c.in-Ok.read.1.now = told.0 in
    shorter_still (length c.in-Part.behind.now) (length c.in-Ok.read.1.now) (length c.loop-alloc.remaining.now) less short

pub nested_expression-loop-alloc-preserved : goal.nested_expression-loop-alloc-preserved
nested_expression-loop-alloc-preserved t c =
    let some : length c.loop-alloc.waiting.items < c.args.room.turns = let e = c.len.ensures in let w = c.loop-alloc-test.true in
    let k = c.loop-alloc.waiting.ok.0 in omega (arith, e, w, k) in
    let count : c.after_turns-inner.result ≡ record {
      end = c.args.room.end;
      brackets = c.args.room.brackets;
      turns =
          c.args.room.turns - (length c.loop-alloc.waiting.items + 1);
    } =
    c.after_turns-inner.ensures ∙ ap (λ n. record { end = c.args.room.end; brackets = c.args.room.brackets; turns = c.args.room.turns - (n + 1) })
    (c.len-in_default.ensures ∙ (let k = c.loop-alloc.waiting.ok.0 in omega (arith, k))) in
    let P : Resumed →
    Type 0 = λ z. Resumes c.args.room.end c.args.room.turns c.args.room.brackets c.resume.new.waiting.items c.in-Ok.read.1.now (Ok z)
    (resumed_by c.args.room.end c.args.room.turns c.args.room.brackets c.loop-alloc.waiting.items (Ok (read c.in-Ok.read))) in
    let told = subst P c.in-Part.is c.in-Ok-resume.ensures in
    sym
    (sym c.loop-alloc.invariant
    ∙ turned c.args.room.end c.args.room.turns c.args.room.brackets c.loop-alloc.waiting.items c.loop-alloc.remaining.now c.after_turns-inner.result
    (read c.in-Ok.read) some (c.in_default.ensures.other refl) count c.in-Ok.ensures
    ∙ told.1)

pub nested_expression-returns-in-Err-resume : goal.nested_expression-returns-in-Err-resume
nested_expression-returns-in-Err-resume t c =
    let some : length c.loop-alloc.waiting.items < c.args.room.turns = let e = c.len.ensures in let w = c.loop-alloc-test.true in
    let k = c.loop-alloc.waiting.ok.0 in omega (arith, e, w, k) in
    let count : c.after_turns-inner.result ≡ record {
      end = c.args.room.end;
      brackets = c.args.room.brackets;
      turns =
          c.args.room.turns - (length c.loop-alloc.waiting.items + 1);
    } =
    c.after_turns-inner.ensures ∙ ap (λ n. record { end = c.args.room.end; brackets = c.args.room.brackets; turns = c.args.room.turns - (n + 1) })
    (c.len-in_default.ensures ∙ (let k = c.loop-alloc.waiting.ok.0 in omega (arith, k))) in
    resume_refused read c.in-Err-resume.refusal c.args.room.end c.args.room.turns c.args.room.brackets [] c.in-Ok.read.1.now
    (resumed_by c.args.room.end c.args.room.turns c.args.room.brackets c.loop-alloc.waiting.items (Ok (read c.in-Ok.read)))
    (within 32 c.args.room.end c.args.room.turns c.args.room.brackets c.args.rest.now) c.in-Err-resume.ensures
    (sym c.loop-alloc.invariant
    ∙ turned c.args.room.end c.args.room.turns c.args.room.brackets c.loop-alloc.waiting.items c.loop-alloc.remaining.now c.after_turns-inner.result
    (read c.in-Ok.read) some (c.in_default.ensures.other refl) count c.in-Ok.ensures)

pub nested_expression-returns : goal.nested_expression-returns
nested_expression-returns t c =
    let none : c.args.room.turns ≤ length c.loop-alloc.waiting.items = let e = c.len.ensures in let w = c.loop-alloc-test.false in
    let k = c.loop-alloc.waiting.ok.0 in omega (arith, e, w, k) in
    sym c.loop-alloc.invariant ∙ no_turns c.args.room.end c.args.room.turns c.args.room.brackets c.loop-alloc.waiting.items c.loop-alloc.remaining.now none
    ∙ ap (λ o. Err (Expected o)) (sym c.offset.ensures)
