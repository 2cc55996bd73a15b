-- Texts in their quotes are read as they were.
use Rattle.std.proofs.Common.{◌≡◌, ℕ, ◌+◌, List, [], ◌∷◌, ◌++◌, length, true, false, refl, sym, ap, ◌∙◌, subst, inl, inr, arith, append_assoc, length-append}
use Rattle.std.specs.Prelude.{Some, flat_map}
use Rattle.sheet_syntax_trees.specs.declared.token.TokenKind.TheVariants as kind
use Rattle.sheet_syntax_trees.specs.Tokens.{text_from, is_short_text}
use Rattle.sheet_syntax_trees.proofs.Seeing.{Seen, token, TextByte, TextBytes, text_front}
use Rattle.sheet_syntax_trees.specs.Printing.{escape, quoted}

escaped_text : (c : ℕ) (cs more : List ℕ) (n : ℕ) → TextByte c → text_from false more ≡ Some (cs, n) →
    (m : ℕ) × (text_from false (escape c ++ more) ≡ Some (c ∷ cs, m)) × (m ≡ length (escape c) + n)
escaped_text c cs more n (inl e) h =
    let P : ℕ → Type 0 = λ c. (m : ℕ) × (text_from false (escape c ++ more) ≡ Some (c ∷ cs, m)) × (m ≡ length (escape c) + n) in
    subst P (sym e) (1 + (1 + n), rw h (ap (λ k. Some (34 ∷ cs, k)) (omega arith)), omega arith)
escaped_text c cs more n (inr (inl e)) h =
    let P : ℕ → Type 0 = λ c. (m : ℕ) × (text_from false (escape c ++ more) ≡ Some (c ∷ cs, m)) × (m ≡ length (escape c) + n) in
    subst P (sym e) (1 + (1 + n), rw h (ap (λ k. Some (92 ∷ cs, k)) (omega arith)), omega arith)
escaped_text c cs more n (inr (inr (inl e))) h =
    let P : ℕ → Type 0 = λ c. (m : ℕ) × (text_from false (escape c ++ more) ≡ Some (c ∷ cs, m)) × (m ≡ length (escape c) + n) in
    subst P (sym e) (1 + (1 + n), rw h (ap (λ k. Some (10 ∷ cs, k)) (omega arith)), omega arith)
escaped_text c cs more n (inr (inr (inr (a, b, d, plain)))) h =
    let single : escape c ≡ c ∷ [] = rw (a, b, d) refl in
    let P : List ℕ → Type 0 = λ l. (m : ℕ) × (text_from false (l ++ more) ≡ Some (c ∷ cs, m)) × (m ≡ length l + n) in
    subst P (sym single) (1 + n, rw (a, b, plain, h) refl, omega arith)

pub text_back : (content rest : List ℕ) → TextBytes content →
    (m : ℕ) × (text_from false (flat_map escape content ++ 34 ∷ rest) ≡ Some (content, m)) × (m ≡ length (flat_map escape content) + 1)
text_back [] rest h = (1, refl, omega arith)
text_back (c ∷ cs) rest h =
    let (n, is, count) = text_back cs rest h.1 in
    let (m, told, more) = escaped_text c cs (flat_map escape cs ++ 34 ∷ rest) n h.0 is in
    let long : length (escape c ++ flat_map escape cs) ≡ length (escape c) + length (flat_map escape cs) = length-append (escape c) (flat_map escape cs) in
    (m, ap (text_from false) (append_assoc (escape c) (flat_map escape cs) (34 ∷ rest)) ∙ told, omega (arith, count, more, long))

pub text_seen : (content rest : List ℕ) (at : ℕ) → is_short_text content ≡ true → TextBytes content →
    (end : ℕ) × Seen (quoted content) rest at (token (kind.Text content) at end ∷ [])
text_seen content rest at short bytes =
    let w : List ℕ = flat_map escape content ++ 34 ∷ [] in
    let (m, told, count) = text_back content rest bytes in
    let same : w ++ rest ≡ flat_map escape content ++ 34 ∷ rest = append_assoc (flat_map escape content) (34 ∷ []) rest in
    let long : length w ≡ length (flat_map escape content) + 1 = length-append (flat_map escape content) (34 ∷ []) in
    let size : m ≡ length w = omega (arith, count, long) in
    text_front content w rest at (ap (text_from false) same ∙ told ∙ ap (λ n. Some (content, n)) size) short
