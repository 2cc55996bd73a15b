-- What is known of the kinds of tokens that a text has.
use Rattle.std.proofs.Common.{◌≡◌, ℕ, ◌+◌, ◌-◌, zero, suc, List, [], ◌∷◌, ◌++◌, length, take, Bool, true, false, refl, sym, ap, ◌∙◌, subst, inl, inr, arith}
use Rattle.std.proofs.Common.{add-one, Ok, Err, pos}
use Rattle.std.specs.Prelude.{◌==◌, nat_le, Option, Some, None, option_and_then, if◌then◌else◌, Result, ◌⊎◌}
use Rattle.std.proofs.lemmas.Bool.{cases_Bool}
use Rattle.std.proofs.lemmas.Grind.{common_steps}
use Rattle.sheet_syntax_trees.specs.declared.token.Token.{Token}
use Rattle.sheet_syntax_trees.specs.declared.token.TokenKind.{TokenKind}
use Rattle.sheet_syntax_trees.specs.declared.token.TokenKind.TheVariants as kind
use Rattle.sheet_syntax_trees.specs.declared.token.SyntaxRefusal.{SyntaxRefusal}
use Rattle.sheet_syntax_trees.specs.declared.scan.Scan.{Scan}
use Rattle.sheet_syntax_trees.specs.declared.scan.Scan.TheVariants.{Found, Bad, TooWide}
use Rattle.sheet_syntax_trees.specs.Bytes.{is_letter, is_digit, is_blank, is_plain, is_in_word, is_in_comment, run_length, symbol_length}
use Rattle.sheet_syntax_trees.specs.Tokens.{is_reserved, digits_value, has_leading_zero, word_kind, scan_word, scan_number, escaped, with_content, text_from}
use Rattle.sheet_syntax_trees.specs.Tokens.{is_short_text, text_scan, symbol_scan, scan, scanned, with_tokens, tokens_from, line_after, lexed}
use Rattle.sheet_syntax_trees.proofs.RunLemmas.{chosen}
use Rattle.sheet_syntax_trees.proofs.Seeing.{AllPass, IsWord, TextByte, TextBytes}

-- a token of this kind can be printed and read again
abbrev pub Lexable : TokenKind → Type 0
Lexable (kind.Name w) = IsWord w × (is_reserved w ≡ false)
Lexable (kind.Reserved w) = Unit {0}
Lexable (kind.Number z) = (n : ℕ) × (z ≡ pos n) × (nat_le n 9223372036854775807 ≡ true)
Lexable (kind.Text content) = (is_short_text content ≡ true) × TextBytes content
Lexable (kind.Symbol s) = Unit {0}

abbrev pub Good : List Token → Type 0
Good [] = Unit {0}
Good (t ∷ ts) = Lexable t.kind × Good ts

pub good_front : (xs ys : List Token) → Good (xs ++ ys) → Good xs × Good ys
good_front [] ys h = (tt, h)
good_front (x ∷ xs) ys h = let (a, b) = good_front xs ys h.1 in ((h.0, a), b)

abbrev kind_or : TokenKind → Scan → TokenKind
kind_or k (Found l n) = l
kind_or k Bad = k
kind_or k TooWide = k

same_kind : (k l : TokenKind) (n m : ℕ) → Found k n ≡ Found l m → k ≡ l
same_kind k l n m e = ap (kind_or k) e

pass_take : (p : ℕ → Bool) (cs : List ℕ) → AllPass p (take (run_length p cs) cs)
pass_take p [] = tt
pass_take p (c ∷ cs) =
    elim (cases_Bool (p c)) [
      | inl h ↦ rw (h, add-one) (h, pass_take p cs)
      | inr h ↦ rw h tt
    ]

letter_in_word : (c : ℕ) → is_letter c ≡ true → is_in_word c ≡ true
letter_in_word c h = rw h refl

word_kinds : (w : List ℕ) (k : TokenKind) → IsWord w → word_kind w ≡ k → Lexable k
word_kinds w k h e =
    elim (cases_Bool (is_reserved w)) [
      | inl r ↦ (let same : kind.Reserved w ≡ k = sym (rw r refl) ∙ e in subst Lexable same tt)
      | inr r ↦ (let same : kind.Name w ≡ k = sym (rw r refl) ∙ e in subst Lexable same (h, r))
    ]

word_scan : (c : ℕ) (cs : List ℕ) (k : TokenKind) (len : ℕ) → is_letter c ≡ true → scan_word (take (run_length is_in_word (c ∷ cs)) (c ∷ cs)) ≡ Found k len →
    Lexable k
word_scan c cs k len letter e =
    let inside = letter_in_word c letter in
    let front : take (run_length is_in_word (c ∷ cs)) (c ∷ cs) ≡ c ∷ take (run_length is_in_word cs) cs = rw (inside, add-one) refl in
    let w = c ∷ take (run_length is_in_word cs) cs in
    let e' : scan_word w ≡ Found k len = ap scan_word (sym front) ∙ e in
    elim (chosen (nat_le (length w) 63) (Found (word_kind w) (length w)) Bad (Found k len) e') [
      | inl (short, found) ↦
          word_kinds w k (record {
            first = c;
            others = take (run_length is_in_word cs) cs;
            is = refl;
            letter = letter;
            passes =
                (inside, pass_take is_in_word cs);
            short = short;
          }) (same_kind (word_kind w) k (length w) len found)
      | inr (h, found) ↦ (let wrong : ⊥ = cc in absurd wrong)
    ]

number_scan : (ds : List ℕ) (k : TokenKind) (len : ℕ) → scan_number ds ≡ Found k len → Lexable k
number_scan ds k len e =
    elim (chosen (has_leading_zero ds) Bad (if nat_le (digits_value 0 ds) 9223372036854775807 then Found (kind.Number (pos (digits_value 0 ds))) (length ds)
    else TooWide) (Found k len) e) [
      | inl (h, found) ↦ (let wrong : ⊥ = cc in absurd wrong)
      | inr (h, more) ↦
          let number : TokenKind = kind.Number (pos (digits_value 0 ds)) in
          elim (chosen (nat_le (digits_value 0 ds) 9223372036854775807) (Found number (length ds)) TooWide (Found k len) more) [
            | inl (fits, found) ↦ subst Lexable (same_kind (kind.Number (pos (digits_value 0 ds))) k (length ds) len found) (digits_value 0 ds, refl, fits)
            | inr (h, found) ↦ (let wrong : ⊥ = cc in absurd wrong)
          ]
    ]

content_some : (content : List ℕ) (taken : ℕ) (more : Option (List ℕ × ℕ)) (p : List ℕ × ℕ) → with_content content taken more ≡ Some p →
    (q : List ℕ × ℕ) × (more ≡ Some q) × (p.0 ≡ content ++ q.0)
content_some content taken None p e = let wrong : ⊥ = cc in absurd wrong
content_some content taken (Some q) p e =
    let same : (content ++ q.0, taken + q.1) ≡ p = cc in
    (q, refl, ap (λ (x : List ℕ × ℕ). x.0) (sym same))

then_some : {A B : Type 0} (f : A → Option B) (o : Option A) (y : B) → option_and_then f o ≡ Some y → (x : A) × (o ≡ Some x) × (f x ≡ Some y)
then_some f None y e = let wrong : ⊥ = cc in absurd wrong
then_some f (Some x) y e = (x, refl, e)

chosen_some : (b : Bool) (x : ℕ) (o : Option ℕ) (y : ℕ) → (if b then Some x else o) ≡ Some y → (x ≡ y) ⊎ (o ≡ Some y)
chosen_some true x o y e = inl cc
chosen_some false x o y e = inr e

escaped_byte : (c b : ℕ) → escaped c ≡ Some b → TextByte b
escaped_byte c b e =
    elim (chosen_some (c == 34) 34 (if c == 92 then Some 92 else (if c == 110 then Some 10 else None)) b e) [
      | inl h ↦ inl (sym h)
      | inr more ↦
          elim (chosen_some (c == 92) 92 (if c == 110 then Some 10 else None) b more) [
            | inl h ↦ inr (inl (sym h))
            | inr again ↦
                elim (chosen_some (c == 110) 10 None b again) [
                  | inl h ↦ inr (inr (inl (sym h)))
                  | inr none ↦ (let wrong : ⊥ = cc in absurd wrong)
                ]
          ]
    ]

plain_no_feed : (c : ℕ) → is_plain c ≡ true → (c == 10) ≡ false
plain_no_feed c h = grind (arith, common_steps)

pub text_bytes : (behind : Bool) (cs : List ℕ) (p : List ℕ × ℕ) → text_from behind cs ≡ Some p → TextBytes p.0
text_bytes behind [] p e = let wrong : ⊥ = cc in absurd wrong
text_bytes true (c ∷ cs) p e =
    let (b, is, after) = then_some (λ byte. with_content (byte ∷ []) 1 (text_from false cs)) (escaped c) p e in
    let (q, more, content) = content_some (b ∷ []) 1 (text_from false cs) p after in
    subst TextBytes (sym content) (escaped_byte c b is, text_bytes false cs q more)
text_bytes false (c ∷ cs) p e =
    elim (chosen (c == 34) (Some ([], 1)) (if c == 92 then with_content [] 1 (text_from true cs)
    else (if is_plain c then with_content (c ∷ []) 1 (text_from false cs) else None)) (Some p) e) [
      | inl (quote, end) ↦ (let same : ([], 1) ≡ p = cc in let content : [] ≡ p.0 = ap (λ (x : List ℕ × ℕ). x.0) same in subst TextBytes content tt)
      | inr (quote, more) ↦
          elim (chosen (c == 92) (with_content [] 1 (text_from true cs)) (if is_plain c then with_content (c ∷ []) 1 (text_from false cs) else None) (Some p)
          more) [
            | inl (slash, after) ↦
                (let (q, rest, content) = content_some [] 1 (text_from true cs) p after in
                subst TextBytes (sym content) (text_bytes true cs q rest))
            | inr (slash, more) ↦
                elim (chosen (is_plain c) (with_content (c ∷ []) 1 (text_from false cs)) None (Some p) more) [
                  | inl (plain, after) ↦
                      (let (q, rest, content) = content_some (c ∷ []) 1 (text_from false cs) p after in
                      subst TextBytes (sym content) (inr (inr (inr (quote, slash, plain_no_feed c plain, plain))), text_bytes false cs q rest))
                  | inr (h, none) ↦ (let wrong : ⊥ = cc in absurd wrong)
                ]
          ]
    ]

text_kinds : (o : Option (List ℕ × ℕ)) (k : TokenKind) (len : ℕ) → ((p : List ℕ × ℕ) → o ≡ Some p → TextBytes p.0) → text_scan o ≡ Found k len → Lexable k
text_kinds None k len bytes e = let wrong : ⊥ = cc in absurd wrong
text_kinds (Some p) k len bytes e =
    elim (chosen (is_short_text p.0) (Found (kind.Text p.0) (p.1 + 1)) Bad (Found k len) e) [
      | inl (short, found) ↦ subst Lexable (same_kind (kind.Text p.0) k (p.1 + 1) len found) (short, bytes p refl)
      | inr (h, found) ↦ (let wrong : ⊥ = cc in absurd wrong)
    ]

symbol_kinds : (n : ℕ) (rest : List ℕ) (k : TokenKind) (len : ℕ) → symbol_scan n rest ≡ Found k len → Lexable k
symbol_kinds n rest k len e =
    elim (chosen (n == 0) Bad (Found (kind.Symbol (take n rest)) n) (Found k len) e) [
      | inl (h, found) ↦ (let wrong : ⊥ = cc in absurd wrong)
      | inr (h, found) ↦ subst Lexable (same_kind (kind.Symbol (take n rest)) k n len found) tt
    ]

scan_kinds : (cs : List ℕ) (k : TokenKind) (len : ℕ) → scan cs ≡ Found k len → Lexable k
scan_kinds [] k len e = let wrong : ⊥ = cc in absurd wrong
scan_kinds (c ∷ cs) k len e =
    let word = scan_word (take (run_length is_in_word (c ∷ cs)) (c ∷ cs)) in
    let number = scan_number (take (run_length is_digit (c ∷ cs)) (c ∷ cs)) in
    let text = text_scan (text_from false cs) in
    let symbol = symbol_scan (symbol_length (c ∷ cs)) (c ∷ cs) in
    elim (chosen (is_letter c) word (if is_digit c then number else (if c == 34 then text else symbol)) (Found k len) e) [
      | inl (letter, found) ↦ word_scan c cs k len letter found
      | inr (h, more) ↦
          elim (chosen (is_digit c) number (if c == 34 then text else symbol) (Found k len) more) [
            | inl (digit, found) ↦ number_scan (take (run_length is_digit (c ∷ cs)) (c ∷ cs)) k len found
            | inr (h, more) ↦
                elim (chosen (c == 34) text symbol (Found k len) more) [
                  | inl (quote, found) ↦ text_kinds (text_from false cs) k len (λ p is. text_bytes false cs p is) found
                  | inr (h, found) ↦ symbol_kinds (symbol_length (c ∷ cs)) (c ∷ cs) k len found
                ]
          ]
    ]

abbrev Told : Type 0
Told = Result (List Token) SyntaxRefusal

choice : (b : Bool) (x y : Told) (ts : List Token) (P : Type 0) → (if b then x else y) ≡ Ok ts → (x ≡ Ok ts → P) → (y ≡ Ok ts → P) → P
choice true x y ts P h f g = f h
choice false x y ts P h f g = g h

put_before : (t : Token) (r : Told) (ts : List Token) → with_tokens (t ∷ []) r ≡ Ok ts → (more : List Token) × (r ≡ Ok more) × (ts ≡ t ∷ more)
put_before t (Ok more) ts h = (more, refl, (let same : t ∷ more ≡ ts = cc in sym same))
put_before t (Err e) ts h = let wrong : ⊥ = cc in absurd wrong

scanned_good : (at line : ℕ) (s : Scan) (behind : ℕ → Told) (ts : List Token) → ((k : TokenKind) (len : ℕ) → s ≡ Found k len → Lexable k) →
    scanned at line s behind ≡ Ok ts → ((n : ℕ) (more : List Token) → behind n ≡ Ok more → Good more) → Good ts
scanned_good at line (Found k len) behind ts kinds h go =
    let (more, told, is) = put_before (record { kind = k; start = at; end = at + len; line = line }) (behind len) ts h in
    subst Good (sym is) (kinds k len refl, go len more told)
scanned_good at line Bad behind ts kinds h go = let wrong : ⊥ = cc in absurd wrong
scanned_good at line TooWide behind ts kinds h go = let wrong : ⊥ = cc in absurd wrong

tokens_good : (cs : List ℕ) (at line passed : ℕ) (ts : List Token) → tokens_from cs at line passed ≡ Ok ts → Good ts
tokens_good [] at line passed ts h = let same : [] ≡ ts = cc in subst Good same tt
tokens_good (c ∷ cs) at line (suc passed) ts h = tokens_good cs (at + 1) (line_after c line) passed ts h
tokens_good (c ∷ cs) at line zero ts h =
    choice (is_blank c) (tokens_from cs (at + 1) (line_after c line) 0)
    (if c == 35 then tokens_from cs (at + 1) line (run_length is_in_comment cs)
    else scanned at line (scan (c ∷ cs)) (λ len. tokens_from cs (at + 1) line (len - 1))) ts (Good ts) h
    (λ told. tokens_good cs (at + 1) (line_after c line) 0 ts told)
    (λ told. choice (c == 35) (tokens_from cs (at + 1) line (run_length is_in_comment cs))
    (scanned at line (scan (c ∷ cs)) (λ len. tokens_from cs (at + 1) line (len - 1))) ts (Good ts) told
    (λ again. tokens_good cs (at + 1) line (run_length is_in_comment cs) ts again)
    (λ again. scanned_good at line (scan (c ∷ cs)) (λ len. tokens_from cs (at + 1) line (len - 1)) ts (scan_kinds (c ∷ cs)) again
    (λ n more is. tokens_good cs (at + 1) line (n - 1) more is)))

pub lexed_good : (text : List ℕ) (ts : List Token) → lexed text ≡ Ok ts → Good ts
lexed_good text ts h = tokens_good text 0 1 0 ts h
