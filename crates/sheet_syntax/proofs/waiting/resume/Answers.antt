use Rattle.std.proofs.Common.{Bor, ◌≡◌, [], ◌-◌, List, length, Ok, refl, subst, sym, ap, ◌∙◌}
use Rattle.sheet_syntax_trees.specs.declared.token.Token.{Token}
use Rattle.sheet_syntax_trees.specs.declared.sign.Sign.TheVariants as sign
use Rattle.sheet_syntax_trees.specs.declared.tree.Formed.{Formed}
use Rattle.sheet_syntax_trees.specs.Reading.{expect, within}
use Rattle.sheet_syntax_trees.proofs.Answering.{expect_ok}
use Rattle.sheet_syntax.specs.declared.waiting.OpenIf.{OpenIf}
use Rattle.sheet_syntax.specs.Waiting.{resumed_by, chosen_form}
use Rattle.sheet_syntax.proofs.Ifs.{resumes_refused, condition_read, condition_refused, branch_read, branch_refused, choice_made, choice_refused}
use Rattle.sheet_syntax.proofs.Ifs.{expect_shorter}
use Rattle.sheet_syntax.proofs.waiting.resume.Goals as goal

abbrev view : Bor (List Token) → List Token
view b = b.now

pub returns-in-Err : goal.returns-in-Err
returns-in-Err c =
    let before = sym c.loop-inner.invariant
    ∙ ap (λ ws. resumed_by c.args.room.end c.args.room.turns c.args.room.brackets ws (Ok (c.loop-inner.formed, c.args.rest.now))) c.in-Some.ensures.items in
    resumes_refused view c.in-Err.refusal (expect c.args.room.end sign.Then c.args.rest.now) c.args.room.end c.args.room.turns c.args.room.brackets []
    c.args.rest.now _ c.in-Err.ensures
    (λ d h. before ∙ condition_refused c.args.room.end c.args.room.turns c.args.room.brackets c.pop.new.self.items c.in-Some.inner c.loop-inner.formed
    c.args.rest.now d c.in-Nothing.is h)

pub returns-in-Err-expect : goal.returns-in-Err-expect
returns-in-Err-expect c =
    let before = sym c.loop-inner.invariant
    ∙ ap (λ ws. resumed_by c.args.room.end c.args.room.turns c.args.room.brackets ws (Ok (c.loop-inner.formed, c.args.rest.now))) c.in-Some.ensures.items in
    resumes_refused view c.in-Err-expect.refusal (expect c.args.room.end sign.Else c.args.rest.now) c.args.room.end c.args.room.turns c.args.room.brackets []
    c.args.rest.now _ c.in-Err-expect.ensures
    (λ d h. before ∙ branch_refused c.args.room.end c.args.room.turns c.args.room.brackets c.pop.new.self.items c.in-Some.inner c.in-Condition.condition
    c.loop-inner.formed c.args.rest.now d c.in-Condition.is h)

pub returns-in-Err-choice : goal.returns-in-Err-choice
returns-in-Err-choice c =
    let before = sym c.loop-inner.invariant
    ∙ ap (λ ws. resumed_by c.args.room.end c.args.room.turns c.args.room.brackets ws (Ok (c.loop-inner.formed, c.args.rest.now))) c.in-Some.ensures.items in
    resumes_refused (λ (f : Formed). f) c.in-Err-choice.refusal
    (chosen_form c.in-Some.inner.start c.in-Some.inner.line c.in-Branch.condition c.in-Branch.then c.loop-inner.formed) c.args.room.end c.args.room.turns
    c.args.room.brackets [] c.args.rest.now _ c.in-Err-choice.ensures
    (λ d h. before ∙ choice_refused c.args.room.end c.args.room.turns c.args.room.brackets c.pop.new.self.items c.in-Some.inner c.in-Branch.condition
    c.in-Branch.then c.loop-inner.formed c.args.rest.now d c.in-Branch.is h)

pub loop-inner-preserved : goal.loop-inner-preserved
loop-inner-preserved c =
    let before = sym c.loop-inner.invariant
    ∙ ap (λ ws. resumed_by c.args.room.end c.args.room.turns c.args.room.brackets ws (Ok (c.loop-inner.formed, c.args.rest.now))) c.in-Some.ensures.items in
    sym (before ∙ choice_made c.args.room.end c.args.room.turns c.args.room.brackets c.pop.new.self.items c.in-Some.inner c.in-Branch.condition c.in-Branch.then
    c.loop-inner.formed c.in-Ok-choice.whole c.args.rest.now c.in-Branch.is c.in-Ok-choice.ensures)

pub returns-in-Nothing : goal.returns-in-Nothing
returns-in-Nothing c =
    let before = sym c.loop-inner.invariant
    ∙ ap (λ ws. resumed_by c.args.room.end c.args.room.turns c.args.room.brackets ws (Ok (c.loop-inner.formed, c.args.rest.now))) c.in-Some.ensures.items in
    let (t, is, sg) = expect_ok c.args.room.end sign.Then c.args.rest.now c.in-Ok.behind.now c.in-Ok.ensures in
    let P : List OpenIf →
    Type 0 = λ ws. resumed_by c.args.room.end c.args.room.turns c.args.room.brackets c.args.waiting.now.items
    (Ok (c.args.first, c.args.rest.now)) ≡ resumed_by c.args.room.end c.args.room.turns c.args.room.brackets ws
    (within 32 c.args.room.end (c.args.room.turns - length ws) c.args.room.brackets c.in-Ok.behind.now) in (
      expect_shorter c.args.room.end c.args.rest.now c.in-Ok.behind.now t is,
      subst P (sym c.in_ok-push-in-Nothing.ensures.items)
          (before ∙ condition_read c.args.room.end c.args.room.turns c.args.room.brackets c.pop.new.self.items c.in-Some.inner _ c.loop-inner.formed
          c.args.rest.now c.in-Ok.behind.now c.in-Nothing.is refl c.in-Ok.ensures),
    )

pub returns-in-Condition : goal.returns-in-Condition
returns-in-Condition c =
    let before = sym c.loop-inner.invariant
    ∙ ap (λ ws. resumed_by c.args.room.end c.args.room.turns c.args.room.brackets ws (Ok (c.loop-inner.formed, c.args.rest.now))) c.in-Some.ensures.items in
    let (t, is, sg) = expect_ok c.args.room.end sign.Else c.args.rest.now c.in-Ok-expect.behind.now c.in-Ok-expect.ensures in
    let P : List OpenIf →
    Type 0 = λ ws. resumed_by c.args.room.end c.args.room.turns c.args.room.brackets c.args.waiting.now.items
    (Ok (c.args.first, c.args.rest.now)) ≡ resumed_by c.args.room.end c.args.room.turns c.args.room.brackets ws
    (within 32 c.args.room.end (c.args.room.turns - length ws) c.args.room.brackets c.in-Ok-expect.behind.now) in (
      expect_shorter c.args.room.end c.args.rest.now c.in-Ok-expect.behind.now t is,
      subst P (sym c.in_ok-push-in-Condition.ensures.items)
          (before ∙ branch_read c.args.room.end c.args.room.turns c.args.room.brackets c.pop.new.self.items c.in-Some.inner _ c.in-Condition.condition
          c.loop-inner.formed c.args.rest.now c.in-Ok-expect.behind.now c.in-Condition.is refl c.in-Ok-expect.ensures),
    )
