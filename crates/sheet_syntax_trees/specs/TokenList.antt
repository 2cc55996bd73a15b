-- What tokens are seen as.
use Rattle.std.specs.Prelude.{ℕ, List}
use Rattle.sheet_syntax_trees.specs.declared.token.Token.{Token}

-- the tokens of a text, and its length
pub record TokenList : Type 0 where
  pub list : List Token
  pub text_length : ℕ
