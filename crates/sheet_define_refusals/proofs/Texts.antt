-- Texts that are refused for what their tokens are.
use Rattle.std.proofs.Common.{◌≡◌, ℕ, zero, suc, ◌+◌, ◌-◌, List, [], ◌∷◌, length, take, Bool, true, false, cond, Option, Some, None, Result, Ok, Err, refl, sym}
use Rattle.std.proofs.Common.{◌∙◌, subst, inl, inr}
use Rattle.std.specs.Prelude.{◌==◌, nat_le, pos}
use Rattle.sheet_syntax_trees.specs.declared.token.Token.{Token}
use Rattle.sheet_syntax_trees.specs.declared.token.TokenKind.{TokenKind}
use Rattle.sheet_syntax_trees.specs.declared.token.TokenKind.TheVariants as kind
use Rattle.sheet_syntax_trees.specs.declared.token.SyntaxRefusal.{SyntaxRefusal}
use Rattle.sheet_syntax_trees.specs.declared.token.SyntaxRefusal.TheVariants.{BadToken, NumberTooWide, Expected, TooNested, NoMemory}
use Rattle.sheet_syntax_trees.specs.Bytes.{is_letter, is_digit, is_blank, is_in_word, is_in_comment, run_length, symbol_length}
use Rattle.sheet_syntax_trees.specs.Tokens.{word_kind, digits_value, has_leading_zero, text_from, is_short_text, text_scan, scan, with_tokens, scanned}
use Rattle.sheet_syntax_trees.specs.Tokens.{line_after, tokens_from, lexed}
use Rattle.sheet_syntax_trees.proofs.Ordered.{lexed_order}
use Rattle.sheet_define_reading.specs.Reading.{definition_read, whole_definition}
use Rattle.sheet_define_refusals.specs.Laws.{RefusedAtTheFirst, RefusedForNesting}
use Rattle.sheet_syntax_trees.proofs.Answering.{err_then}
use Rattle.sheet_define_refusals.proofs.Wholes.{first, nested}

abbrev Told : Type 0
Told = Result (List Token) SyntaxRefusal

-- a refusal of tokens, and none of bytes
abbrev of_tokens : SyntaxRefusal → Bool
of_tokens (BadToken k) = false
of_tokens (NumberTooWide k) = false
of_tokens (Expected k) = true
of_tokens (TooNested k) = true
of_tokens NoMemory = false

-- a reading that isn't refused for its tokens
abbrev OfBytes : Told → Type 0
OfBytes (Ok ts) = Unit {0}
OfBytes (Err e) = of_tokens e ≡ false

put_before : (front : List Token) (r : Told) → OfBytes r → OfBytes (with_tokens front r)
put_before front (Ok more) h = tt
put_before front (Err e) h = h

either : {A : Type 0} (P : A → Type 0) (b : Bool) (x y : A) → P x → P y → P (cond b x y)
either P true x y px py = px
either P false x y px py = py

module _ (at line : ℕ) (behind : ℕ → Told) (all : (len : ℕ) → OfBytes (behind len)) where
  found : (k : TokenKind) (len : ℕ) → OfBytes (with_tokens (record { kind = k; start = at; end = at + len; line = line } ∷ []) (behind len))
  found k len = put_before (record { kind = k; start = at; end = at + len; line = line } ∷ []) (behind len) (all len)

  scanned_text : (o : Option (List ℕ × ℕ)) → OfBytes (scanned at line (text_scan o) behind)
  scanned_text None = refl
  scanned_text (Some p) = either (λ s. OfBytes (scanned at line s behind)) (is_short_text p.0) _ _ (found (kind.Text p.0) (p.1 + 1)) refl

  scanned_bytes : (bytes : List ℕ) → OfBytes (scanned at line (scan bytes) behind)
  scanned_bytes [] = refl
  scanned_bytes (c ∷ cs) =
      let word = take (run_length is_in_word (c ∷ cs)) (c ∷ cs) in
      let digits = take (run_length is_digit (c ∷ cs)) (c ∷ cs) in
      let count = symbol_length (c ∷ cs) in
      either (λ s. OfBytes (scanned at line s behind)) (is_letter c) _ _
      (either (λ s. OfBytes (scanned at line s behind)) (nat_le (length word) 63) _ _ (found (word_kind word) (length word)) refl)
      (either (λ s. OfBytes (scanned at line s behind)) (is_digit c) _ _
      (either (λ s. OfBytes (scanned at line s behind)) (has_leading_zero digits) _ _ refl
      (either (λ s. OfBytes (scanned at line s behind)) (nat_le (digits_value 0 digits) 9223372036854775807) _ _
      (found (kind.Number (pos (digits_value 0 digits))) (length digits)) refl))
      (either (λ s. OfBytes (scanned at line s behind)) (c == 34) _ _ (scanned_text (text_from false cs))
      (either (λ s. OfBytes (scanned at line s behind)) (count == 0) _ _ refl (found (kind.Symbol (take count (c ∷ cs))) count))))

from_bytes : (cs : List ℕ) (at line passed : ℕ) → OfBytes (tokens_from cs at line passed)
from_bytes [] at line passed = tt
from_bytes (c ∷ cs) at line (suc passed) = from_bytes cs (at + 1) (line_after c line) passed
from_bytes (c ∷ cs) at line zero =
    either OfBytes (is_blank c) (tokens_from cs (at + 1) (line_after c line) 0) _ (from_bytes cs (at + 1) (line_after c line) 0)
    (either OfBytes (c == 35) (tokens_from cs (at + 1) line (run_length is_in_comment cs)) _ (from_bytes cs (at + 1) line (run_length is_in_comment cs))
    (scanned_bytes at line (λ len. tokens_from cs (at + 1) line (len - 1)) (λ len. from_bytes cs (at + 1) line (len - 1)) (c ∷ cs)))

lexed_err : (text : List ℕ) (e : SyntaxRefusal) → lexed text ≡ Err e → of_tokens e ≡ false
lexed_err text e h = subst OfBytes h (from_bytes text 0 1 0)

-- what refuses the tokens of a text
told : (text : List ℕ) (e : SyntaxRefusal) → of_tokens e ≡ true → definition_read text ≡ Err e →
    (tokens : List Token) × (lexed text ≡ Ok tokens) × (whole_definition (length text) tokens ≡ Err e)
told text e is h =
    elim (err_then (lexed text) (λ tokens. whole_definition (length text) tokens) e h) [
      | inl bytes ↦ (let wrong : true ≡ false = sym is ∙ lexed_err text e bytes in let none : ⊥ = cc in absurd none)
      | inr (tokens, read, refused) ↦ (tokens, read, refused)
    ]

pub refused_at_the_first : RefusedAtTheFirst
refused_at_the_first text o h = let (tokens, read, refused) = told text (Expected o) refl h in
    (tokens, read, first (length text) tokens o (lexed_order text tokens read) refused)

pub refused_for_nesting : RefusedForNesting
refused_for_nesting text o h = let (tokens, read, refused) = told text (TooNested o) refl h in (tokens, read, nested (length text) tokens o refused)
