-- A formula of one level is a formula of every looser level.
use Rattle.std.proofs.Common.{List, ◌++◌, ◌≡◌, true}
use Rattle.std.specs.Prelude.{nat_le}
use Rattle.std.proofs.lemmas.Bool.{leb-true}
use Rattle.sheet_syntax_trees.specs.declared.token.Token.{Token}
use Rattle.sheet_syntax_trees.specs.declared.operators.Level.TheVariants as level
use Rattle.sheet_syntax_trees.specs.declared.operators.Prefix.TheVariants as prefix
use Rattle.sheet_define_data.specs.Grammar.{Limits, IsFormulaOf}
use Rattle.sheet_syntax_trees.specs.Grammar.{Nonterminal, Form, Produces, expression, chain, negation, unary, postfix, atom, no_choice, an_operand, no_prefix}
use Rattle.sheet_syntax_trees.specs.Grammar.{no_step}

module _ {ts : List Token} {f : Form} where
  pub postfix_of_atom : Produces atom ts f → Produces postfix ts f
  postfix_of_atom d = no_step _ _ d

  pub unary_of_postfix : Produces postfix ts f → Produces unary ts f
  unary_of_postfix d = no_prefix prefix.Minus _ _ d

  pub products_of_unary : Produces unary ts f → Produces (chain level.Products) ts f
  products_of_unary d = an_operand level.Products _ _ d

  pub sums_of_unary : Produces unary ts f → Produces (chain level.Sums) ts f
  sums_of_unary d = an_operand level.Sums _ _ (products_of_unary d)

  pub sets_of_sums : Produces (chain level.Sums) ts f → Produces (chain level.Sets) ts f
  sets_of_sums d = an_operand level.Sets _ _ d

  pub negation_of_comparison : Produces (chain level.Comparison) ts f → Produces negation ts f
  negation_of_comparison d = no_prefix prefix.Not _ _ d

  pub expression_of_negation : Produces negation ts f → Produces expression ts f
  expression_of_negation d = no_choice _ _ (an_operand level.Or _ _ (an_operand level.And _ _ d))

  pub unary_of_atom : Produces atom ts f → Produces unary ts f
  unary_of_atom d = unary_of_postfix (postfix_of_atom d)

  pub products_of_atom : Produces atom ts f → Produces (chain level.Products) ts f
  products_of_atom d = products_of_unary (unary_of_atom d)

  pub sums_of_atom : Produces atom ts f → Produces (chain level.Sums) ts f
  sums_of_atom d = sums_of_unary (unary_of_atom d)

  pub sets_of_postfix : Produces postfix ts f → Produces (chain level.Sets) ts f
  sets_of_postfix d = sets_of_sums (sums_of_unary (unary_of_postfix d))

  pub sets_of_atom : Produces atom ts f → Produces (chain level.Sets) ts f
  sets_of_atom d = sets_of_postfix (postfix_of_atom d)

  pub expression_of_comparison : Produces (chain level.Comparison) ts f → Produces expression ts f
  expression_of_comparison d = expression_of_negation (negation_of_comparison d)

  pub expression_of_sums : Produces (chain level.Sums) ts f → Produces expression ts f
  expression_of_sums d = expression_of_comparison (an_operand level.Comparison _ _ (sets_of_sums d))

  pub expression_of_unary : Produces unary ts f → Produces expression ts f
  expression_of_unary d = expression_of_sums (sums_of_unary d)

  pub expression_of_postfix : Produces postfix ts f → Produces expression ts f
  expression_of_postfix d = expression_of_unary (unary_of_postfix d)

  pub expression_of_atom : Produces atom ts f → Produces expression ts f
  expression_of_atom d = expression_of_postfix (postfix_of_atom d)

  pub negation_of_atom : Produces atom ts f → Produces negation ts f
  negation_of_atom d = negation_of_comparison (an_operand level.Comparison _ _ (sets_of_atom d))

-- the limits of definitions
abbrev pub limits : Limits
limits = record { depth = 32; nest = 32 }

-- what was derived stands at the front of the tokens
pub a_formula : {n : Nonterminal} {ts us : List Token} (front : List Token) (f : Form) → Produces n front f → ts ≡ front ++ us → nat_le f.depth 32 ≡ true →
    nat_le f.nest 32 ≡ true
    → IsFormulaOf limits n ts f.tree us
a_formula front f d split shallow narrow =
    record {
      front = front;
      depth = f.depth;
      nest = f.nest;
      split = split;
      produced = d;
      shallow = leb-true f.depth 32 shallow;
      narrow = leb-true f.nest 32 narrow;
    }
