-- What the bytes of printed formulas are read as.
use Rattle.std.proofs.Common.{◌≡◌, ℕ, ◌<◌, ◌≤◌, ◌+◌, ◌-◌, ◌*◌, ◌/◌, ◌%◌, ◌^◌, zero, suc, List, [], ◌∷◌, ◌++◌, length, take, Bool, true, false, refl, sym, ap}
use Rattle.std.proofs.Common.{◌∙◌, subst, arith, add-one, append_assoc, Ok, Err, pos}
use Rattle.std.specs.Prelude.{◌==◌, nat_le, Some, if◌then◌else◌, Result, ◌⊎◌}
use Rattle.std.specs.Fmt.{decimal, signed_decimal}
use Rattle.std.proofs.lemmas.Fmt.{decimal_by_steps}
use Rattle.std.proofs.lemmas.Grind.{common_steps}
use Rattle.std.proofs.Math.Seq.{take-append_seam, drop-append_seam}
use Rattle.sheet_syntax_trees.specs.declared.token.Token.{Token}
use Rattle.sheet_syntax_trees.specs.declared.token.TokenKind.{TokenKind}
use Rattle.sheet_syntax_trees.specs.declared.token.TokenKind.TheVariants as kind
use Rattle.sheet_syntax_trees.specs.declared.token.SyntaxRefusal.{SyntaxRefusal}
use Rattle.sheet_syntax_trees.specs.declared.scan.Scan.TheVariants.{Found, Bad}
use Rattle.sheet_syntax_trees.specs.Bytes.{is_letter, is_digit, is_blank, is_plain, is_in_word, run_length}
use Rattle.sheet_syntax_trees.specs.Tokens.{digits_value, has_leading_zero, word_kind, scan_word, scan_number, text_from, is_short_text, text_scan, scan}
use Rattle.sheet_syntax_trees.specs.Tokens.{with_tokens, tokens_from}
use Rattle.sheet_syntax_trees.proofs.FrontLemmas.{front_no_feed}
use Rattle.sheet_syntax_trees.proofs.Turning.{passed_over}

abbrev Told : Type 0
Told = Result (List Token) SyntaxRefusal

-- a word or number before these bytes ends there
abbrev pub Ends : List ℕ → Type 0
Ends [] = Unit {0}
Ends (c ∷ cs) = is_in_word c ≡ false

-- a text at this offset of the first line, before that rest, is read as these tokens
pub record Seen (text rest : List ℕ) (at : ℕ) (ts : List Token) : Type 0 where
  pub to : ℕ
  pub told : tokens_from (text ++ rest) at 1 0 ≡ with_tokens ts (tokens_from rest to 1 0)

abbrev pub token : TokenKind → ℕ → ℕ → Token
token k start end = record { kind = k; start = start; end = end; line = 1 }

with_both : (xs ys : List Token) (r : Told) → with_tokens (xs ++ ys) r ≡ with_tokens xs (with_tokens ys r)
with_both xs ys (Ok more) = ap Ok (append_assoc xs ys more)
with_both xs ys (Err e) = refl

pub both_seen : (a b rest : List ℕ) (at : ℕ) (xs ys : List Token) (s : Seen a (b ++ rest) at xs) → Seen b rest s.to ys → Seen (a ++ b) rest at (xs ++ ys)
both_seen a b rest at xs ys s t =
    record {
      to = t.to;
      told = ap (λ l. tokens_from l at 1 0) (append_assoc a b rest) ∙ s.told ∙ ap (with_tokens xs) t.told
          ∙ sym (with_both xs ys (tokens_from rest t.to 1 0));
    }

-- ---- a token at the front

pub front_seen : (c : ℕ) (w rest : List ℕ) (at : ℕ) (k : TokenKind) → is_blank c ≡ false → (c == 35) ≡ false →
    scan (c ∷ (w ++ rest)) ≡ Found k (length (c ∷ w)) → Seen (c ∷ w) rest at (token k at (at + length (c ∷ w)) ∷ [])
front_seen c w rest at k blank comment e =
    let front = front_no_feed c (w ++ rest) k (length (c ∷ w)) e in
    let d : length (c ∷ w) - 1 ≡ length w = omega arith in
    let t : Token = token k at (at + length (c ∷ w)) in
    let over : tokens_from (w ++ rest) (at + 1) 1 (length w) ≡ tokens_from rest (at + 1 + length w) 1 0 =
    passed_over (length w) (w ++ rest) (at + 1) 1 front.1.1 ∙ ap (λ l. tokens_from l (at + 1 + length w) 1 0) (drop-append_seam w rest) in
    record {
      to = at + 1 + length w;
      told =
          rw (blank, comment, e) (ap (λ n. with_tokens (t ∷ []) (tokens_from (w ++ rest) (at + 1) 1 n)) d ∙ ap (with_tokens (t ∷ [])) over);
    }

if_true : {A : Type 0} (b : Bool) (x y : A) → b ≡ true → (if b then x else y) ≡ x
if_true b x y h = rw h refl

if_false : {A : Type 0} (b : Bool) (x y : A) → b ≡ false → (if b then x else y) ≡ y
if_false b x y h = rw h refl

abbrev pub AllPass : (ℕ → Bool) → List ℕ → Type 0
AllPass p [] = Unit {0}
AllPass p (c ∷ cs) = (p c ≡ true) × AllPass p cs

-- the first byte doesn't pass
abbrev Halts : (ℕ → Bool) → List ℕ → Type 0
Halts p [] = Unit {0}
Halts p (c ∷ cs) = p c ≡ false

run_all : (p : ℕ → Bool) (w rest : List ℕ) → AllPass p w → Halts p rest → run_length p (w ++ rest) ≡ length w
run_all p [] [] a h = refl
run_all p [] (c ∷ cs) a h = rw h refl
run_all p (c ∷ w) rest a h = rw (a.0, add-one) (ap suc (run_all p w rest a.1 h))

run_front : (p : ℕ → Bool) (w rest : List ℕ) → AllPass p w → Halts p rest → take (run_length p (w ++ rest)) (w ++ rest) ≡ w
run_front p w rest a h = ap (λ n. take n (w ++ rest)) (run_all p w rest a h) ∙ take-append_seam w rest

letter_blank : (c : ℕ) → is_letter c ≡ true → is_blank c ≡ false
letter_blank c h = grind (arith, common_steps)

letter_comment : (c : ℕ) → is_letter c ≡ true → (c == 35) ≡ false
letter_comment c h = grind (arith, common_steps)

digit_blank : (c : ℕ) → is_digit c ≡ true → is_blank c ≡ false
digit_blank c h = grind (arith, common_steps)

digit_comment : (c : ℕ) → is_digit c ≡ true → (c == 35) ≡ false
digit_comment c h = grind (arith, common_steps)

digit_letter : (c : ℕ) → is_digit c ≡ true → is_letter c ≡ false
digit_letter c h = grind (arith, common_steps)

word_halts : (rest : List ℕ) → Ends rest → Halts is_in_word rest
word_halts [] h = tt
word_halts (c ∷ cs) h = h

not_digit : (c : ℕ) → is_in_word c ≡ false → is_digit c ≡ false
not_digit c h = grind (arith, common_steps)

digit_halts : (rest : List ℕ) → Ends rest → Halts is_digit rest
digit_halts [] h = tt
digit_halts (c ∷ cs) h = not_digit c h

-- ---- words

pub record IsWord (text : List ℕ) : Type 0 where
  pub first : ℕ
  pub others : List ℕ
  pub is : text ≡ first ∷ others
  pub letter : is_letter first ≡ true
  pub passes : AllPass is_in_word (first ∷ others)
  pub short : nat_le (length (first ∷ others)) 63 ≡ true

pub word_seen : (text rest : List ℕ) (at : ℕ) → IsWord text → Ends rest → (end : ℕ) × Seen text rest at (token (word_kind text) at end ∷ [])
word_seen text rest at w ends =
    let whole = w.first ∷ w.others in
    let taken = run_front is_in_word whole rest w.passes (word_halts rest ends) in
    let found : scan (w.first ∷ (w.others ++ rest)) ≡ Found (word_kind whole) (length whole) =
    if_true (is_letter w.first) (scan_word (take (run_length is_in_word (whole ++ rest)) (whole ++ rest))) _ w.letter ∙ ap scan_word taken
    ∙ if_true (nat_le (length whole) 63) (Found (word_kind whole) (length whole)) Bad w.short in
    let P : List ℕ → Type 0 = λ l. (end : ℕ) × Seen l rest at (token (word_kind l) at end ∷ []) in
    subst P (sym w.is) (
      at + length whole,
      front_seen w.first w.others rest at (word_kind whole) (letter_blank w.first w.letter) (letter_comment w.first w.letter) found,
    )

-- ---- numbers

pub record Numeral (n : ℕ) (ds : List ℕ) : Type 0 where
  pub first : ℕ
  pub others : List ℕ
  pub is : ds ≡ first ∷ others
  pub passes : AllPass is_digit (first ∷ others)
  pub value : digits_value 0 ds ≡ n
  pub positive : 0 < n → (first == 48) ≡ false
  pub single : n ≡ 0 → others ≡ []

digit_of : (n : ℕ) → n < 10 → is_digit (48 + n) ≡ true
digit_of n h = grind (arith, common_steps)

not_zero_digit : (n : ℕ) → 0 < n → ((48 + n) == 48) ≡ false
not_zero_digit n h = grind (arith, common_steps)

one_digit : (n : ℕ) → n < 10 → Numeral n ((48 + n) ∷ [])
one_digit n h = record {
  first = 48 + n;
  others = [];
  is = refl;
  passes = (digit_of n h, tt);
  value = omega arith;
  positive = not_zero_digit n;
  single =
      λ e. refl;
}

value_append : (v : ℕ) (ds : List ℕ) (d : ℕ) → digits_value v (ds ++ d ∷ []) ≡ digits_value v ds * 10 + (d - 48)
value_append v [] d = refl
value_append v (e ∷ ds) d = value_append (v * 10 + (e - 48)) ds d

pass_append : (p : ℕ → Bool) (ds : List ℕ) (d : ℕ) → AllPass p ds → p d ≡ true → AllPass p (ds ++ d ∷ [])
pass_append p [] d a h = (h, tt)
pass_append p (c ∷ cs) d a h = (a.0, pass_append p cs d a.1 h)

more_digits : (n : ℕ) (ds : List ℕ) → 10 ≤ n → Numeral (n / 10) ds → Numeral n (ds ++ ((48 + n % 10) ∷ []))
more_digits n ds big m =
    let small : n % 10 < 10 = omega arith in
    let some : 0 < n / 10 = omega arith in
    let v = value_append 0 ds (48 + n % 10) in
    let mv = m.value in
    record {
      first = m.first;
      others = m.others ++ (48 + n % 10) ∷ [];
      is = ap (λ l. l ++ (48 + n % 10) ∷ []) m.is;
      passes = pass_append is_digit (m.first ∷ m.others) (48 + n % 10) m.passes (digit_of (n % 10) small);
      value = omega (arith, v, mv);
      positive = λ h. m.positive some;
      single = λ e. absurd (omega (arith, big, e));
    }

pub numeral : (n : ℕ) → n < 2 ^ 64 → Numeral n (decimal n)
numeral n small = decimal_by_steps Numeral one_digit more_digits n small

leading_by : (n : ℕ) (d : ℕ) (ds : List ℕ) → (0 < n → (d == 48) ≡ false) → (n ≡ 0 → ds ≡ []) → has_leading_zero (d ∷ ds) ≡ false
leading_by n d [] a b = refl
leading_by zero d (e ∷ ds) a b = let wrong : (e ∷ ds) ≡ [] = b refl in let no : ⊥ = cc in absurd no
leading_by (suc n) d (e ∷ ds) a b = a (omega arith)

pub number_seen : (n : ℕ) (rest : List ℕ) (at : ℕ) → nat_le n 9223372036854775807 ≡ true → n < 2 ^ 64 → Ends rest →
    (end : ℕ) × Seen (signed_decimal (pos n)) rest at (token (kind.Number (pos n)) at end ∷ [])
number_seen n rest at fits small ends =
    let m = numeral n small in
    let whole = m.first ∷ m.others in
    let taken : take (run_length is_digit (whole ++ rest)) (whole ++ rest) ≡ whole = run_front is_digit whole rest m.passes (digit_halts rest ends) in
    let value : digits_value 0 whole ≡ n = ap (digits_value 0) (sym m.is) ∙ m.value in
    let led : has_leading_zero whole ≡ false = leading_by n m.first m.others m.positive m.single in
    let known : scan_number whole ≡ Found (kind.Number (pos n)) (length whole) = rw (led, value, fits) refl in
    let digit : is_digit m.first ≡ true = m.passes.0 in
    let letter : is_letter m.first ≡ false = digit_letter m.first digit in
    let found : scan (m.first ∷ (m.others ++ rest)) ≡ Found (kind.Number (pos n)) (length whole) = if_false (is_letter m.first) _ _ letter
    ∙ if_true (is_digit m.first) (scan_number (take (run_length is_digit (whole ++ rest)) (whole ++ rest))) _ digit ∙ ap scan_number taken ∙ known in
    let P : List ℕ → Type 0 = λ l. (end : ℕ) × Seen l rest at (token (kind.Number (pos n)) at end ∷ []) in
    subst P (sym m.is) (
      at + length whole,
      front_seen m.first m.others rest at (kind.Number (pos n)) (digit_blank m.first digit) (digit_comment m.first digit)
          found,
    )

-- ---- texts

-- a byte that a text may have after the escapes
abbrev pub TextByte : ℕ → Type 0
TextByte c = (c ≡ 34) ⊎ ((c ≡ 92) ⊎ ((c ≡ 10) ⊎ (((c == 34) ≡ false) × ((c == 92) ≡ false) × ((c == 10) ≡ false) × (is_plain c ≡ true))))

abbrev pub TextBytes : List ℕ → Type 0
TextBytes [] = Unit {0}
TextBytes (c ∷ cs) = TextByte c × TextBytes cs

-- a text in its quotes
pub text_front : (content w rest : List ℕ) (at : ℕ) → text_from false (w ++ rest) ≡ Some (content, length w) → is_short_text content ≡ true →
    (end : ℕ) × Seen (34 ∷ w) rest at (token (kind.Text content) at end ∷ [])
text_front content w rest at told short =
    let size : length w + 1 ≡ length (34 ∷ w) = omega arith in
    let found : scan (34 ∷ (w ++ rest)) ≡ Found (kind.Text content) (length (34 ∷ w)) = ap text_scan told ∙ rw short (ap (Found (kind.Text content)) size) in
    (at + length (34 ∷ w), front_seen 34 w rest at (kind.Text content) refl refl found)
