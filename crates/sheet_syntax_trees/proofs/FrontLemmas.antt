-- The token at the front has no line feed.
use Rattle.std.proofs.Common.{◌≡◌, ℕ, ◌<◌, ◌+◌, suc, List, [], ◌∷◌, length, take, Bool, true, false, refl, sym, ap, ◌∙◌, subst, inl, inr, arith, add-one, pos}
use Rattle.std.specs.Prelude.{◌==◌, ◌&&◌, nat_le, Option, Some, None, if◌then◌else◌}
use Rattle.std.proofs.lemmas.Bool.{cases_Bool, eqb-true}
use Rattle.std.proofs.lemmas.Grind.{common_steps}
use Rattle.sheet_syntax_trees.specs.declared.token.TokenKind.{TokenKind}
use Rattle.sheet_syntax_trees.specs.declared.token.TokenKind.TheVariants.{Number, Text, Symbol}
use Rattle.sheet_syntax_trees.specs.declared.scan.Scan.{Scan}
use Rattle.sheet_syntax_trees.specs.declared.scan.Scan.TheVariants.{Found, Bad, TooWide}
use Rattle.sheet_syntax_trees.specs.Bytes.{is_letter, is_digit, is_in_word, is_before_equals, is_symbol, begins_with, run_length, symbol_length}
use Rattle.sheet_syntax_trees.specs.Tokens.{text_from, word_kind, scan_word, scan_number, text_scan, symbol_scan, scan, is_short_text, has_leading_zero}
use Rattle.sheet_syntax_trees.specs.Tokens.{digits_value}
use Rattle.sheet_syntax_trees.proofs.RunLemmas.{NoFeed, run_no_feed, in_word_no_feed, digit_no_feed, text_no_feed, quote_no_feed, chosen}

abbrev pub count_of : Scan → ℕ → ℕ
count_of (Found kind n) d = n
count_of Bad d = d
count_of TooWide d = d

same_count : (k l : TokenKind) (n m : ℕ) → Found k n ≡ Found l m → n ≡ m
same_count k l n m e = ap (λ s. count_of s 0) e

word_count : (word : List ℕ) (kind : TokenKind) (len : ℕ) → scan_word word ≡ Found kind len → length word ≡ len
word_count word kind len e =
    elim (chosen (nat_le (length word) 63) (Found (word_kind word) (length word)) Bad (Found kind len) e) [
      | inl (h, found) ↦ same_count (word_kind word) kind (length word) len found
      | inr (h, found) ↦ let wrong : ⊥ = cc in absurd wrong
    ]

number_count : (digits : List ℕ) (kind : TokenKind) (len : ℕ) → scan_number digits ≡ Found kind len → length digits ≡ len
number_count digits kind len e =
    elim (chosen (has_leading_zero digits) Bad (if nat_le (digits_value 0 digits) 9223372036854775807
    then Found (Number (pos (digits_value 0 digits))) (length digits) else TooWide) (Found kind len) e) [
      | inl (h, found) ↦ let wrong : ⊥ = cc in absurd wrong
      | inr (h, more) ↦
          elim (chosen (nat_le (digits_value 0 digits) 9223372036854775807) (Found (Number (pos (digits_value 0 digits))) (length digits)) TooWide
          (Found kind len) more) [
            | inl (h, found) ↦ same_count (Number (pos (digits_value 0 digits))) kind (length digits) len found
            | inr (h, found) ↦ let wrong : ⊥ = cc in absurd wrong
          ]
    ]

text_count : (o : Option (List ℕ × ℕ)) (kind : TokenKind) (len : ℕ) → text_scan o ≡ Found kind len → (p : List ℕ × ℕ) × (o ≡ Some p) × (p.1 + 1 ≡ len)
text_count None kind len e = let wrong : ⊥ = cc in absurd wrong
text_count (Some p) kind len e =
    elim (chosen (is_short_text p.0) (Found (Text p.0) (p.1 + 1)) Bad (Found kind len) e) [
      | inl (h, found) ↦ (p, refl, same_count (Text p.0) kind (p.1 + 1) len found)
      | inr (h, found) ↦ let wrong : ⊥ = cc in absurd wrong
    ]

symbol_count : (n : ℕ) (rest : List ℕ) (kind : TokenKind) (len : ℕ) → symbol_scan n rest ≡ Found kind len → (n ≡ len) × ((n == 0) ≡ false)
symbol_count n rest kind len e =
    elim (chosen (n == 0) Bad (Found (Symbol (take n rest)) n) (Found kind len) e) [
      | inl (h, found) ↦ let wrong : ⊥ = cc in absurd wrong
      | inr (h, found) ↦ (same_count (Symbol (take n rest)) kind n len found, h)
    ]

run_taken : (p : ℕ → Bool) (cs : List ℕ) → length (take (run_length p cs) cs) ≡ run_length p cs
run_taken p [] = refl
run_taken p (c ∷ cs) =
    elim (cases_Bool (p c)) [
      | inl h ↦ rw (h, add-one) (ap suc (run_taken p cs))
      | inr h ↦ rw h refl
    ]

letter_in_word : (c : ℕ) → is_letter c ≡ true → is_in_word c ≡ true
letter_in_word c h = rw h refl

run_front : (p : ℕ → Bool) (c : ℕ) (cs : List ℕ) (len : ℕ) → ((c : ℕ) → p c ≡ true → (c == 10) ≡ false) → p c ≡ true →
    length (take (run_length p (c ∷ cs)) (c ∷ cs)) ≡ len → (0 < len) × NoFeed len (c ∷ cs)
run_front p c cs len other here e =
    let count : run_length p (c ∷ cs) ≡ len = sym (run_taken p (c ∷ cs)) ∙ e in
    let first : run_length p (c ∷ cs) ≡ run_length p cs + 1 = rw here refl in
    let P : ℕ → Type 0 = λ n. NoFeed n (c ∷ cs) in
    (omega arith, subst P count (run_no_feed p other (c ∷ cs)))

symbol_no_feed : (c : ℕ) → is_symbol c ≡ true → (c == 10) ≡ false
symbol_no_feed c h =
    elim (cases_Bool (c == 10)) [
      | inl feed ↦ (let e : c ≡ 10 = eqb-true c 10 feed in let P : ℕ → Type 0 = λ n. is_symbol n ≡ true in
          let wrong : false ≡ true = subst P e h in cc)
      | inr other ↦ other
    ]

equals_no_feed : (c : ℕ) (cs : List ℕ) → (is_before_equals c && begins_with 61 cs) ≡ true → NoFeed 2 (c ∷ cs)
equals_no_feed c [] h = let wrong : ⊥ = grind (arith, common_steps) in absurd wrong
equals_no_feed c (d ∷ ds) h = (grind (arith, common_steps), (grind (arith, common_steps), tt))

by_length : (two one : Bool) (c : ℕ) (cs : List ℕ) → (two ≡ true → NoFeed 2 (c ∷ cs)) → (one ≡ true → (c == 10) ≡ false) →
    ((if two then 2 else (if one then 1 else 0)) == 0) ≡ false
    → (0 < (if two then 2 else (if one then 1 else 0))) × NoFeed (if two then 2 else (if one then 1 else 0)) (c ∷ cs)
by_length true one c cs pair single h = (omega arith, pair refl)
by_length false true c cs pair single h = (omega arith, (single refl, tt))
by_length false false c cs pair single h = let wrong : ⊥ = cc in absurd wrong

symbol_front : (c : ℕ) (cs : List ℕ) → (symbol_length (c ∷ cs) == 0) ≡ false → (0 < symbol_length (c ∷ cs)) × NoFeed (symbol_length (c ∷ cs)) (c ∷ cs)
symbol_front c cs h = by_length (is_before_equals c && begins_with 61 cs) (is_symbol c) c cs (equals_no_feed c cs) (symbol_no_feed c) h

pub front_no_feed : (c : ℕ) (cs : List ℕ) (kind : TokenKind) (len : ℕ) → scan (c ∷ cs) ≡ Found kind len → (0 < len) × NoFeed len (c ∷ cs)
front_no_feed c cs kind len e =
    let word = scan_word (take (run_length is_in_word (c ∷ cs)) (c ∷ cs)) in
    let number = scan_number (take (run_length is_digit (c ∷ cs)) (c ∷ cs)) in
    let text = text_scan (text_from false cs) in
    let symbol = symbol_scan (symbol_length (c ∷ cs)) (c ∷ cs) in
    elim (chosen (is_letter c) word (if is_digit c then number else (if c == 34 then text else symbol)) (Found kind len) e) [
      | inl (letter, found) ↦
          run_front is_in_word c cs len in_word_no_feed (letter_in_word c letter) (word_count (take (run_length is_in_word (c ∷ cs)) (c ∷ cs)) kind len found)
      | inr (h, more) ↦
          elim (chosen (is_digit c) number (if c == 34 then text else symbol) (Found kind len) more) [
            | inl (digit, found) ↦ run_front is_digit c cs len digit_no_feed digit (number_count (take (run_length is_digit (c ∷ cs)) (c ∷ cs)) kind len found)
            | inr (h, more) ↦
                elim (chosen (c == 34) text symbol (Found kind len) more) [
                  | inl (quote, found) ↦
                      let (p, is, count) = text_count (text_from false cs) kind len found in
                      let s : len ≡ suc p.1 = omega arith in
                      rw s (omega arith, (quote_no_feed c quote, text_no_feed false cs p is))
                  | inr (h, found) ↦
                      let (same, some) = symbol_count (symbol_length (c ∷ cs)) (c ∷ cs) kind len found in
                      let P : ℕ → Type 0 = λ n. (0 < n) × NoFeed n (c ∷ cs) in
                      subst P same (symbol_front c cs some)
                ]
          ]
    ]
