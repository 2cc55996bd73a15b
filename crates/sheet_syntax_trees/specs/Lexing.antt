-- One turn of reading tokens.
use Rattle.std.specs.Prelude.{◌≡◌, ℕ, ◌+◌, ◌<◌, ◌≤◌, List, [], ◌∷◌, length, drop, Result, Ok, Err}
use Rattle.sheet_syntax_trees.specs.declared.token.Token.{Token}
use Rattle.sheet_syntax_trees.specs.declared.token.SyntaxRefusal.{SyntaxRefusal}
use Rattle.sheet_syntax_trees.specs.declared.token.SyntaxRefusal.TheVariants.{BadToken, NumberTooWide, Expected, TooNested, NoMemory}
use Rattle.sheet_syntax_trees.specs.TokenList.{TokenList}
use Rattle.sheet_syntax_trees.specs.Tokens.{tokens_from, with_tokens, line_after}

-- the tokens of a list with its length of text
abbrev pub list_of : TokenList → List Token
list_of t = t.list

-- the line behind these bytes, of which at most the first is an LF
abbrev pub line_behind : List ℕ → ℕ → ℕ
line_behind [] line = line
line_behind (c ∷ cs) line = line_after c line

-- a turn put what it read at the end of the list, and what is left gives the other tokens; or it refused
abbrev pub Goes : List Token → List ℕ → ℕ → ℕ → Result ℕ SyntaxRefusal → List Token → Type 0
Goes old rest at line (Ok count) new =
    (0 < count) × (count ≤ length rest)
    × (with_tokens old (tokens_from rest at line 0) ≡ with_tokens new (tokens_from (drop count rest) (at + count) (line_behind rest line) 0))
Goes old rest at line (Err NoMemory) new = Unit {0}
Goes old rest at line (Err (BadToken k)) new = tokens_from rest at line 0 ≡ Err (BadToken k)
Goes old rest at line (Err (NumberTooWide k)) new = tokens_from rest at line 0 ≡ Err (NumberTooWide k)
Goes old rest at line (Err (Expected k)) new = ⊥
Goes old rest at line (Err (TooNested k)) new = ⊥
