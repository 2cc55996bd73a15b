-- The formulas of texts.
use Rattle.std.specs.Prelude.{◌≡◌, ℕ, ◌-◌, ◌≤◌, List, ◌∷◌, length, take, drop, Result, Ok, Err}
use Rattle.sheet_syntax_trees.specs.declared.token.Token.{Token}
use Rattle.sheet_syntax_trees.specs.declared.token.SyntaxRefusal.{SyntaxRefusal}
use Rattle.sheet_syntax_trees.specs.declared.token.SyntaxRefusal.TheVariants.{BadToken, NumberTooWide, Expected, TooNested, NoMemory}
use Rattle.sheet_syntax_trees.specs.TokenList.{TokenList}
use Rattle.sheet_syntax_trees.specs.Tokens.{lexed}
use Rattle.sheet_syntax_trees.specs.declared.tree.Tree.{Tree}
use Rattle.sheet_syntax_trees.specs.Grammar.{IsFormula}
use Rattle.sheet_syntax_trees.specs.Order.{InOrder}
use Rattle.sheet_syntax_trees.specs.Refusals.{IsBlocked, IsFirst, IsTooNested}
use Rattle.sheet_syntax_trees.specs.Texts.{StandsFor}
use Rattle.sheet_syntax_trees.specs.Reading.{Answer, ◌>>=◌, formula_at, whole_formula}

-- A tree exactly where the text stands for one, and that one. Where something else is expected, it is at the first token
-- such that the tokens up to and with it begin no formula; what is nested too deeply is a bracket or a form.
abbrev pub Parses : List ℕ → Result Tree SyntaxRefusal → Type 0
Parses text (Ok e) = StandsFor text e
Parses text (Err (BadToken k)) = (e : Tree) → StandsFor text e → ⊥
Parses text (Err (NumberTooWide k)) = (e : Tree) → StandsFor text e → ⊥
Parses text (Err (Expected k)) = ((e : Tree) → StandsFor text e → ⊥) × ((tokens : List Token) → lexed text ≡ Ok tokens → IsFirst (length text) tokens k)
Parses text (Err (TooNested k)) = ((e : Tree) → StandsFor text e → ⊥) × ((tokens : List Token) → lexed text ≡ Ok tokens → IsTooNested (length text) tokens k)
Parses text (Err NoMemory) = Unit {0}

-- what is read of a text, with the offset of each refusal
abbrev pub parsed : List ℕ → Answer Tree
parsed text = lexed text >>= (λ tokens. whole_formula (length text) tokens)

-- what is read from an index of tokens on, with the tokens behind it
abbrev pub parsed_at : TokenList → ℕ → Answer (Tree × List Token)
parsed_at tokens from = formula_at 32 32 tokens.text_length (drop from tokens.list) >>= (λ x. Ok (x.0.tree, x.1))

-- The tokens from the one index up to the other stand for this tree, and the one behind them goes on with no formula.
-- Where something else is expected, the tokens up to and with the one there begin no formula, and it is the first such
-- token where the tokens are in order; what is nested too deeply is a bracket or a form.
abbrev pub ParsesAt : TokenList → ℕ → Result (Tree × ℕ) SyntaxRefusal → Type 0
ParsesAt tokens from (Ok x) =
    (from ≤ x.1) × IsFormula (take (x.1 - from) (drop from tokens.list)) x.0
    × ((t : Token) (rest : List Token) → drop x.1 tokens.list ≡ t ∷ rest → IsBlocked tokens.text_length (drop from tokens.list) t.start)
ParsesAt tokens from (Err (BadToken k)) = (e : Tree) → IsFormula (drop from tokens.list) e → ⊥
ParsesAt tokens from (Err (NumberTooWide k)) = (e : Tree) → IsFormula (drop from tokens.list) e → ⊥
ParsesAt tokens from (Err (Expected k)) =
    ((e : Tree) → IsFormula (drop from tokens.list) e → ⊥) × IsBlocked tokens.text_length (drop from tokens.list) k × (InOrder 0 tokens.text_length tokens.list → IsFirst tokens.text_length (drop from tokens.list) k)
ParsesAt tokens from (Err (TooNested k)) = ((e : Tree) → IsFormula (drop from tokens.list) e → ⊥) × IsTooNested tokens.text_length (drop from tokens.list) k
ParsesAt tokens from (Err NoMemory) = Unit {0}
