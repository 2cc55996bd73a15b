-- Tokens that begin at an offset, in a line.
use Rattle.std.proofs.Common.{ℕ, ◌+◌, length}
use Rattle.std.specs.Prelude.{pos, codes}
use Prim.Native.String.{String}
use Rattle.sheet_syntax_trees.specs.declared.token.Token.{Token}
use Rattle.sheet_syntax_trees.specs.declared.token.TokenKind.TheVariants as kind

abbrev pub word : String → ℕ → ℕ → Token
word spelling start line = record { kind = kind.Reserved (codes spelling); start = start; end = start + length (codes spelling); line = line }

abbrev pub name : String → ℕ → ℕ → Token
name spelling start line = record { kind = kind.Name (codes spelling); start = start; end = start + length (codes spelling); line = line }

abbrev pub symbol : String → ℕ → ℕ → Token
symbol spelling start line = record { kind = kind.Symbol (codes spelling); start = start; end = start + length (codes spelling); line = line }

-- a number and a text also with the offset behind them
abbrev pub number : ℕ → ℕ → ℕ → ℕ → Token
number n start end line = record { kind = kind.Number (pos n); start = start; end = end; line = line }

abbrev pub text : String → ℕ → ℕ → ℕ → Token
text content start end line = record { kind = kind.Text (codes content); start = start; end = end; line = line }
