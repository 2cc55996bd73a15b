-- Where tokens are refused.
use Rattle.std.specs.Prelude.{◌≡◌, ◌≤◌, ℕ, ◌+◌, List, [], ◌∷◌, ◌++◌}
use Rattle.sheet_syntax_trees.specs.declared.token.Token.{Token}
use Rattle.sheet_syntax_trees.specs.declared.sign.Sign.{Sign}
use Rattle.sheet_syntax_trees.specs.declared.sign.Sign.TheVariants as sign
use Rattle.sheet_syntax_trees.specs.Signs.{sign_of}
use Rattle.sheet_syntax_trees.specs.Grammar.{Nonterminal, Form, Produces, expression, BeginsFormula}
use Rattle.sheet_syntax_trees.specs.Reading.{offset}

-- no formula, of any depth, begins with the front and the token behind it; at the end the front is none
abbrev pub NoneBegins : List Token → List Token → Type 0
NoneBegins front [] = (f : Form) → Produces expression front f → ⊥
NoneBegins front (t ∷ rest) = (behind : List Token) (f : Form) → Produces expression (front ++ t ∷ behind) f → ⊥

-- At this offset stands a token such that the tokens up to and with it begin no formula, or the end of tokens that are none.
pub record IsBlocked (end : ℕ) (tokens : List Token) (at : ℕ) : Type 0 where
  pub front : List Token
  pub rest : List Token
  pub split : tokens ≡ front ++ rest
  pub here : at ≡ offset end rest
  pub none : NoneBegins front rest

-- At this offset stands the first such token: those before it begin a formula.
pub record IsFirst (end : ℕ) (tokens : List Token) (at : ℕ) : Type 0 where
  pub front : List Token
  pub rest : List Token
  pub split : tokens ≡ front ++ rest
  pub here : at ≡ offset end rest
  pub begins : BeginsFormula front
  pub none : NoneBegins front rest

-- how many brackets a sign opens, and how many it closes
abbrev pub opening : Sign → ℕ
opening sign.Open = 1
opening sign.OpenBrace = 1
opening _ = 0

-- how many brackets a sign closes
abbrev pub closing : Sign → ℕ
closing sign.Close = 1
closing sign.CloseBrace = 1
closing _ = 0

-- how many brackets tokens open, and how many they close
abbrev pub opens : List Token → ℕ
opens [] = 0
opens (t ∷ ts) = opening (sign_of t.kind) + opens ts

-- how many brackets tokens close
abbrev pub closes : List Token → ℕ
closes [] = 0
closes (t ∷ ts) = closing (sign_of t.kind) + closes ts

-- Behind the front a form of the second nonterminal may stand: with some tokens behind it, all is a form of the first
-- one, and at least as deep.
pub record Admits (n : Nonterminal) (front : List Token) (m : Nonterminal) : Type 0 where
  pub behind : List Token
  pub whole : (mid : List Token) (f : Form) → Produces m mid f → (w : Form) × Produces n (front ++ (mid ++ behind)) w × (f.depth ≤ w.depth)

-- At this offset begins what is nested too deeply: the 33rd open bracket, where some formula has a bracket; or a form of
-- depth 33, where some formula has a form.
pub data IsTooNested (end : ℕ) (tokens : List Token) (at : ℕ) : Type 0 where
  a_bracket : (front rest : List Token) (b : Token) → tokens ≡ front ++ b ∷ rest → opening (sign_of b.kind) ≡ 1 → opens front ≡ closes front + 32 → BeginsFormula (front ++ b ∷ []) → at ≡ b.start → IsTooNested end tokens at
  a_form : (front mid rest : List Token) (n : Nonterminal) (f : Form) → tokens ≡ front ++ (mid ++ rest) → Admits expression front n → Produces n mid f → f.depth ≡ 33 → at ≡ offset end mid → IsTooNested end tokens at
