-- Tokens, and the formulas that they stand for, so many lines further down.
use Rattle.std.proofs.Common.{◌≡◌, ℕ, ◌+◌, ◌-◌, zero, suc, List, [], ◌∷◌, length, take, map, Bool, true, false, refl, sym, ap, ◌∙◌, inl, inr, arith, Ok, Err}
use Rattle.std.proofs.Common.{pos}
use Rattle.std.specs.Prelude.{◌==◌, nat_le, if◌then◌else◌, Result, Option, Some, None}
use Rattle.std.proofs.lemmas.Bool.{cases_Bool}
use Rattle.std.proofs.lemmas.List.{map-append}
use Rattle.sheet_syntax_trees.specs.declared.token.Token.{Token}
use Rattle.sheet_syntax_trees.specs.declared.token.TokenKind.{TokenKind}
use Rattle.sheet_syntax_trees.specs.declared.token.TokenKind.TheVariants as kind
use Rattle.sheet_syntax_trees.specs.declared.token.SyntaxRefusal.{SyntaxRefusal}
use Rattle.sheet_syntax_trees.specs.Bytes.{is_letter, is_digit, is_blank, is_in_word, is_in_comment, run_length, symbol_length}
use Rattle.sheet_syntax_trees.specs.Tokens.{digits_value, has_leading_zero, word_kind, scan_word, scan_number, text_from, is_short_text, text_scan, symbol_scan}
use Rattle.sheet_syntax_trees.specs.Tokens.{scan, tokens_from, with_tokens, scanned, line_after}

abbrev Told : Type 0
Told = Result (List Token) SyntaxRefusal

abbrev pub down : ℕ → Token → Token
down n t = record { kind = t.kind; start = t.start; end = t.end; line = t.line + n }

abbrev pub moved : ℕ → Told → Told
moved n (Ok ts) = Ok (map (down n) ts)
moved n (Err e) = Err e

pub moved_with : (n : ℕ) (ts : List Token) (r : Told) → moved n (with_tokens ts r) ≡ with_tokens (map (down n) ts) (moved n r)
moved_with n ts (Ok more) = ap Ok (map-append (down n) ts more)
moved_with n ts (Err e) = refl

line_moved : (c line n : ℕ) → line_after c (line + n) ≡ line_after c line + n
line_moved c line n = elim (cases_Bool (c == 10)) [ inl h ↦ rw h (omega arith) | inr h ↦ rw h refl ]

either : (b : Bool) (n : ℕ) (x y x' y' : Told) → x' ≡ moved n x → y' ≡ moved n y → (if b then x' else y') ≡ moved n (if b then x else y)
either true n x y x' y' g h = g
either false n x y x' y' g h = h

cond_case : {A : Type 0} (P : A → Type 0) (b : Bool) (x y : A) → P x → P y → P (if b then x else y)
cond_case P true x y g h = g
cond_case P false x y g h = h

-- what is scanned at the front of bytes, with tokens behind it that are moved
module _ (at line n : ℕ) (behind lower : ℕ → Told) (same : (len : ℕ) → lower len ≡ moved n (behind len)) where
  found_moved : (k : TokenKind) (len : ℕ) →
      with_tokens (record { kind = k; start = at; end = at + len; line = line + n } ∷ []) (lower len) ≡ moved n
      (with_tokens (record { kind = k; start = at; end = at + len; line = line } ∷ []) (behind len))
  found_moved k len =
      let t : Token = record { kind = k; start = at; end = at + len; line = line } in
      ap (with_tokens (down n t ∷ [])) (same len) ∙ sym (moved_with n (t ∷ []) (behind len))

  word_moved : (word : List ℕ) → scanned at (line + n) (scan_word word) lower ≡ moved n (scanned at line (scan_word word) behind)
  word_moved word =
      cond_case (λ s. scanned at (line + n) s lower ≡ moved n (scanned at line s behind)) (nat_le (length word) 63) _ _
      (found_moved (word_kind word) (length word)) refl

  number_moved : (digits : List ℕ) → scanned at (line + n) (scan_number digits) lower ≡ moved n (scanned at line (scan_number digits) behind)
  number_moved digits =
      cond_case (λ s. scanned at (line + n) s lower ≡ moved n (scanned at line s behind)) (has_leading_zero digits) _ _ refl
      (cond_case (λ s. scanned at (line + n) s lower ≡ moved n (scanned at line s behind)) (nat_le (digits_value 0 digits) 9223372036854775807) _ _
      (found_moved (kind.Number (pos (digits_value 0 digits))) (length digits)) refl)

  text_moved : (o : Option (List ℕ × ℕ)) → scanned at (line + n) (text_scan o) lower ≡ moved n (scanned at line (text_scan o) behind)
  text_moved None = refl
  text_moved (Some p) =
      cond_case (λ s. scanned at (line + n) s lower ≡ moved n (scanned at line s behind)) (is_short_text p.0) _ _ (found_moved (kind.Text p.0) (p.1 + 1)) refl

  symbol_moved : (count : ℕ) (rest : List ℕ) → scanned at (line + n) (symbol_scan count rest) lower ≡ moved n (scanned at line (symbol_scan count rest) behind)
  symbol_moved count rest =
      cond_case (λ s. scanned at (line + n) s lower ≡ moved n (scanned at line s behind)) (count == 0) _ _ refl
      (found_moved (kind.Symbol (take count rest)) count)

  scan_moved : (c : ℕ) (cs : List ℕ) → scanned at (line + n) (scan (c ∷ cs)) lower ≡ moved n (scanned at line (scan (c ∷ cs)) behind)
  scan_moved c cs =
      cond_case (λ s. scanned at (line + n) s lower ≡ moved n (scanned at line s behind)) (is_letter c) _ _
      (word_moved (take (run_length is_in_word (c ∷ cs)) (c ∷ cs)))
      (cond_case (λ s. scanned at (line + n) s lower ≡ moved n (scanned at line s behind)) (is_digit c) _ _
      (number_moved (take (run_length is_digit (c ∷ cs)) (c ∷ cs)))
      (cond_case (λ s. scanned at (line + n) s lower ≡ moved n (scanned at line s behind)) (c == 34) _ _ (text_moved (text_from false cs))
      (symbol_moved (symbol_length (c ∷ cs)) (c ∷ cs))))

pub tokens_moved : (cs : List ℕ) (at line passed n : ℕ) → tokens_from cs at (line + n) passed ≡ moved n (tokens_from cs at line passed)
tokens_moved [] at line passed n = refl
tokens_moved (c ∷ cs) at line (suc passed) n =
    ap (λ l. tokens_from cs (at + 1) l passed) (line_moved c line n) ∙ tokens_moved cs (at + 1) (line_after c line) passed n
tokens_moved (c ∷ cs) at line zero n =
    either (is_blank c) n _ _ _ _ (ap (λ l. tokens_from cs (at + 1) l 0) (line_moved c line n) ∙ tokens_moved cs (at + 1) (line_after c line) 0 n)
    (either (c == 35) n _ _ _ _ (tokens_moved cs (at + 1) line (run_length is_in_comment cs) n)
    (scan_moved at line n (λ len. tokens_from cs (at + 1) line (len - 1)) (λ len. tokens_from cs (at + 1) (line + n) (len - 1))
    (λ len. tokens_moved cs (at + 1) line (len - 1) n) c cs))
