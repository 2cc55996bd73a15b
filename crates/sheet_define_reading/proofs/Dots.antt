-- The one spelling of a dot among the tokens of formulas.
use Rattle.std.proofs.Common.{◌≡◌, ◌<◌, ℕ, List, [], ◌∷◌, true, false, refl, sym, ap, ◌∙◌, subst, arith}
use Rattle.std.specs.Prelude.{Bool, codes, bytes_eq, if◌then◌else◌}
use Rattle.std.proofs.lemmas.Slice.Eq.{bytes_eq-Decides}
use Rattle.sheet_syntax_trees.specs.declared.token.TokenKind.{TokenKind}
use Rattle.sheet_syntax_trees.specs.declared.token.TokenKind.TheVariants as kind
use Rattle.sheet_syntax_trees.specs.declared.sign.Sign.{Sign}
use Rattle.sheet_syntax_trees.specs.declared.sign.Sign.TheVariants as sign
use Rattle.sheet_syntax_trees.specs.Signs.{words, symbols, sign_among, sign_of, sign_rank}

-- a table in which all that stands for a dot has that property
data Dotted (P : List ℕ → Type 0) : List (List ℕ × Sign) → Type 0 where
  no_rows : Dotted P []
  more_rows : (row : List ℕ × Sign) (rows : List (List ℕ × Sign)) → (row.1 ≡ sign.Dot → P row.0) → Dotted P rows → Dotted P (row ∷ rows)

row_dot : (P : List ℕ → Type 0) (row : List ℕ × Sign) → (row.1 ≡ sign.Dot → P row.0) → (word : List ℕ) (other : Sign) (b : Bool) → bytes_eq row.0 word ≡ b →
    (if b then row.1 else other) ≡ sign.Dot → (other ≡ sign.Dot → P word) → P word
row_dot P row is word other true same e more = subst P ((bytes_eq-Decides row.0 word).0 same) (is e)
row_dot P row is word other false differ e more = more e

among_dot : (P : List ℕ → Type 0) (rows : List (List ℕ × Sign)) → Dotted P rows → (word : List ℕ) → sign_among rows word ≡ sign.Dot → P word
among_dot P _ no_rows word e = let wrong : ⊥ = cc in absurd wrong
among_dot P _ (more_rows row rows is more) word e =
    row_dot P row is word (sign_among rows word) (bytes_eq row.0 word) refl e (λ h. among_dot P rows more word h)

not_dot : {P : Type 0} (s : Sign) → (sign_rank s ≡ 5 → ⊥) → s ≡ sign.Dot → P
not_dot s other e = absurd (other (ap sign_rank e))

symbols_dotted : Dotted (λ s. s ≡ codes ".") symbols
symbols_dotted =
    more_rows _ _ (not_dot sign.Root (λ r. omega arith))
    (more_rows _ _ (λ e. refl)
    (more_rows _ _ (not_dot sign.Comma (λ r. omega arith))
    (more_rows _ _ (not_dot sign.Open (λ r. omega arith))
    (more_rows _ _ (not_dot sign.Close (λ r. omega arith))
    (more_rows _ _ (not_dot sign.OpenBrace (λ r. omega arith))
    (more_rows _ _ (not_dot sign.CloseBrace (λ r. omega arith))
    (more_rows _ _ (not_dot sign.Colon (λ r. omega arith))
    (more_rows _ _ (not_dot sign.Bar (λ r. omega arith))
    (more_rows _ _ (not_dot sign.Equals (λ r. omega arith))
    (more_rows _ _ (not_dot sign.NotEquals (λ r. omega arith))
    (more_rows _ _ (not_dot sign.Less (λ r. omega arith))
    (more_rows _ _ (not_dot sign.AtMost (λ r. omega arith))
    (more_rows _ _ (not_dot sign.Greater (λ r. omega arith))
    (more_rows _ _ (not_dot sign.AtLeast (λ r. omega arith))
    (more_rows _ _ (not_dot sign.Plus (λ r. omega arith))
    (more_rows _ _ (not_dot sign.Minus (λ r. omega arith))
    (more_rows _ _ (not_dot sign.Times (λ r. omega arith))
    (more_rows _ _ (not_dot sign.Divide (λ r. omega arith))
    (more_rows _ _ (not_dot sign.Remainder (λ r. omega arith)) (more_rows _ _ (not_dot sign.Join (λ r. omega arith)) no_rows))))))))))))))))))))

words_dotted : Dotted (λ s. ⊥) words
words_dotted = more_rows _ _ (not_dot sign.All (λ r. omega arith))
    (more_rows _ _ (not_dot sign.And (λ r. omega arith))
    (more_rows _ _ (not_dot sign.Any (λ r. omega arith))
    (more_rows _ _ (not_dot sign.Caller (λ r. omega arith))
    (more_rows _ _ (not_dot sign.Count (λ r. omega arith))
    (more_rows _ _ (not_dot sign.Else (λ r. omega arith))
    (more_rows _ _ (not_dot sign.Except (λ r. omega arith))
    (more_rows _ _ (not_dot sign.False (λ r. omega arith))
    (more_rows _ _ (not_dot sign.If (λ r. omega arith))
    (more_rows _ _ (not_dot sign.In (λ r. omega arith))
    (more_rows _ _ (not_dot sign.Intersect (λ r. omega arith))
    (more_rows _ _ (not_dot sign.Max (λ r. omega arith))
    (more_rows _ _ (not_dot sign.Min (λ r. omega arith))
    (more_rows _ _ (not_dot sign.Not (λ r. omega arith))
    (more_rows _ _ (not_dot sign.Only (λ r. omega arith))
    (more_rows _ _ (not_dot sign.Operator (λ r. omega arith))
    (more_rows _ _ (not_dot sign.Or (λ r. omega arith))
    (more_rows _ _ (not_dot sign.Sum (λ r. omega arith))
    (more_rows _ _ (not_dot sign.Then (λ r. omega arith))
    (more_rows _ _ (not_dot sign.This (λ r. omega arith))
    (more_rows _ _ (not_dot sign.True (λ r. omega arith))
    (more_rows _ _ (not_dot sign.Union (λ r. omega arith)) (more_rows _ _ (not_dot sign.Up (λ r. omega arith)) no_rows))))))))))))))))))))))

pub sign_dot : (k : TokenKind) → sign_of k ≡ sign.Dot → k ≡ kind.Symbol (codes ".")
sign_dot (kind.Name name) e = let wrong : ⊥ = cc in absurd wrong
sign_dot (kind.Reserved word) e = absurd (among_dot (λ s. ⊥) words words_dotted word e)
sign_dot (kind.Number n) e = let wrong : ⊥ = cc in absurd wrong
sign_dot (kind.Text text) e = let wrong : ⊥ = cc in absurd wrong
sign_dot (kind.Symbol symbol) e = ap kind.Symbol (among_dot (λ s. s ≡ codes ".") symbols symbols_dotted symbol e)
