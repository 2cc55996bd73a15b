use Rattle.std.proofs.Common.{◌≡◌, rules, true, Some, refl, sym, ◌∙◌, List, ◌∷◌, eq-eqb}
use denote.Enum.Bare.{same_true}
use Rattle.sheet_syntax_trees.specs.declared.token.Token.{Token}
use Rattle.sheet_syntax_trees.specs.declared.sign.Sign.{Sign}
use Rattle.sheet_syntax_trees.specs.contracts.sign.Sign.{the_type}
use Rattle.sheet_syntax_trees.specs.Signs.{sign_of, sign_rank, same_sign}
use Rattle.sheet_syntax_trees.specs.Reading.{after}
use Rattle.sheet_syntax.proofs.front.after.Goals as goal

after_some : (s : Sign) (t : Token) (ts rest : List Token) → rest ≡ t ∷ ts → sign_of t.kind ≡ s → after s rest ≡ Some ts
after_some s t ts rest e is =
    let same : same_sign s s ≡ true = eq-eqb (sign_rank s) (sign_rank s) refl in
    rw (e, is, same) refl

pub returns-in-Some : goal.returns-in-Some
returns-in-Some c =
    sym (after_some c.args.sign c.in-Some.token.now c.in-Some.behind.now c.args.rest.now c.in-Some.ensures.cases.0
    (sym c.sign_of.ensures ∙ same_true the_type (search rules) _ _ (sym c.if-eq.ensures)))
