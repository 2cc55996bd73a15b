-- What holds of all texts that are refused.
use Rattle.std.specs.Prelude.{◌≡◌, ℕ, List, length, Ok, Err}
use Rattle.sheet_syntax_trees.specs.declared.token.Token.{Token}
use Rattle.sheet_syntax_trees.specs.declared.token.SyntaxRefusal.TheVariants.{Expected, TooNested}
use Rattle.sheet_syntax_trees.specs.Tokens.{lexed}
use Rattle.sheet_define_reading.specs.Reading.{definition_read}
use Rattle.sheet_define_refusals.specs.Refusals.{IsFirstOfDefinition, IsFirstTooNested}

-- a text that is refused for what stands there has tokens, and is refused at the first that goes on with no definition
abbrev pub RefusedAtTheFirst : Type 0
RefusedAtTheFirst = (text : List ℕ) (o : ℕ) → definition_read text ≡ Err (Expected o) → (tokens : List Token) × (lexed text ≡ Ok tokens) × IsFirstOfDefinition (length text) tokens o

-- a text that is refused for nesting has tokens, and is refused at what is nested too deeply, before which they begin a definition
abbrev pub RefusedForNesting : Type 0
RefusedForNesting = (text : List ℕ) (o : ℕ) → definition_read text ≡ Err (TooNested o) → (tokens : List Token) × (lexed text ≡ Ok tokens) × IsFirstTooNested (length text) tokens o
