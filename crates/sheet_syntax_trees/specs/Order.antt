-- Tokens in order.
use Rattle.std.specs.Prelude.{ℕ, ◌+◌, ◌≤◌, List, [], ◌∷◌}
use Rattle.sheet_syntax_trees.specs.declared.token.Token.{Token}

-- the tokens begin one behind the other, from the one offset on and before the other
abbrev pub InOrder : ℕ → ℕ → List Token → Type 0
InOrder low end [] = low ≤ end
InOrder low end (t ∷ ts) = (low ≤ t.start) × InOrder (t.start + 1) end ts
