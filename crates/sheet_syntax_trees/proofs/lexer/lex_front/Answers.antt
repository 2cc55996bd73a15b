use Rattle.std.proofs.Common.{◌≡◌, ◌+◌, ◌∷◌, ℕ, List, length, arith, sym, ap, ◌∙◌, subst, false, eq-eqb, Ok}
use Rattle.std.specs.Prelude.{◌==◌}
use Rattle.std.proofs.lemmas.Grind.{common_steps}
use Rattle.sheet_syntax_trees.specs.declared.scan.Scan.TheVariants.{Found}
use Rattle.sheet_syntax_trees.specs.Lexing.{Goes}
use Rattle.sheet_syntax_trees.specs.Tokens.{scan}
use Rattle.sheet_syntax_trees.proofs.FrontLemmas.{front_no_feed}
use Rattle.sheet_syntax_trees.proofs.RunLemmas.{no_feed_length}
use Rattle.sheet_syntax_trees.proofs.Turning.{comment_goes, token_goes}
use Rattle.sheet_syntax_trees.proofs.lexer.lex_front.Goals as goal

pub returns-then-first-eq35 : goal.returns-then-first-eq35
returns-then-first-eq35 c =
    let P : List ℕ → Type 0 = λ rest. Goes c.args.list.now.items rest c.args.at c.args.line (Ok (1 + c.run_length.result)) c.args.list.now.items in
    subst P (sym c.in-Some.ensures.cases.0)
    (comment_goes c.args.list.now.items c.in-Some.first.now c.in-Some.behind.now c.args.at c.args.line (1 + c.run_length.result)
    (sym c.is_blank.ensures ∙ c.if-is_blank.false) (eq-eqb c.in-Some.first.now 35 c.if-first-eq35.true) (ap (λ n. 1 + n) c.run_length.ensures.value))

pub overflow_add-at : goal.overflow_add-at
overflow_add-at c =
    let is : scan (c.in-Some.first.now ∷ c.in-Some.behind.now) ≡ Found c.in-Found.kind c.in-Found.count = ap scan (sym c.in-Some.ensures.cases.0)
    ∙ sym c.in_ok-kind.ensures ∙ c.in-Found.is in
    let front = front_no_feed c.in-Some.first.now c.in-Some.behind.now c.in-Found.kind c.in-Found.count is in
    let within = no_feed_length c.in-Found.count (c.in-Some.first.now ∷ c.in-Some.behind.now) front.1 in
    let same = ap length c.in-Some.ensures.cases.0 in
    omega arith

pub returns-in_ok-push-in-Found : goal.returns-in_ok-push-in-Found
returns-in_ok-push-in-Found c =
    let P : List ℕ → Type 0 = λ rest. Goes c.args.list.now.items rest c.args.at c.args.line (Ok c.in-Found.count) c.push.new.self.items in
    let other : (c.in-Some.first.now == 35) ≡ false = grind (arith, common_steps) in
    let is : scan (c.in-Some.first.now ∷ c.in-Some.behind.now) ≡ Found c.in-Found.kind c.in-Found.count = ap scan (sym c.in-Some.ensures.cases.0)
    ∙ sym c.in_ok-kind.ensures ∙ c.in-Found.is in
    subst P (sym c.in-Some.ensures.cases.0)
    (token_goes c.args.list.now.items c.push.new.self.items c.in-Some.first.now c.in-Some.behind.now c.args.at c.args.line c.in-Found.count c.in-Found.kind
    (sym c.is_blank.ensures ∙ c.if-is_blank.false) other is c.in_ok-push-in-Found.ensures.items)
