-- The width of a text is the number of its characters.
use Rattle.std.proofs.Common.{◌≡◌, refl, sym, ap, ◌∙◌, ℕ, suc, ◌+◌, ◌/◌, ◌%◌, ◌<◌, ◌≤◌, Bool, true, false, cond, List, [], ◌∷◌, length, arith}
use Rattle.std.specs.Prelude.{◌||◌, nat_lt, nat_le}
use Rattle.std.specs.Str.{chars}
use Rattle.std.proofs.Math.Utf8.{encode, encodes}
use Rattle.std.proofs.lemmas.Bool.{lt-leb, leb-false}
use Rattle.std.proofs.lemmas.List.Sums.{sum_by-append}
use Rattle.std.proofs.lemmas.Str.{encodes-chars}
use Rattle.sheet_print.specs.Widths.{begins_character, width, WidthsCountCharacters}

within : (b : ℕ) (t : Bool) → nat_le 192 b ≡ t → 192 ≤ b → t ≡ true
within b true e h = refl
within b false e h = absurd (omega (arith, leb-false 192 b e))

first : (b : ℕ) → 192 ≤ b → begins_character b ≡ true
first b h = ap (λ t. t || nat_le 192 b) (lt-leb (suc b) 128 (omega arith)) ∙ within b (nat_le 192 b) refl h

follows : (b : ℕ) → 128 ≤ b → b < 192 → begins_character b ≡ false
follows b l h = ap (λ t. t || nat_le 192 b) (lt-leb (suc b) 128 (omega arith)) ∙ lt-leb 192 b h

-- whether a byte begins a character, as a number
abbrev counted : ℕ → ℕ
counted b = cond (begins_character b) 1 0

none_before : (n : ℕ) → 0 + n ≡ n
none_before n = omega arith

width_cons : (b : ℕ) (bs : List ℕ) → width (b ∷ bs) ≡ counted b + width bs
width_cons b bs = sum_by-append counted (b ∷ []) bs ∙ ap (λ n. n + width bs) (none_before (counted b))

width_first : (b : ℕ) (bs : List ℕ) → begins_character b ≡ true → width (b ∷ bs) ≡ 1 + width bs
width_first b bs e = width_cons b bs ∙ ap (λ t. cond t 1 0 + width bs) e

width_next : (c : ℕ) (bs : List ℕ) → width ((128 + c % 64) ∷ bs) ≡ width bs
width_next c bs =
    width_cons (128 + c % 64) bs ∙ ap (λ t. cond t 1 0 + width bs) (follows (128 + c % 64) (omega arith) (omega arith)) ∙ none_before (width bs)

either : (t : Bool) (x y : List ℕ) → (t ≡ true → width x ≡ 1) → (t ≡ false → width y ≡ 1) → width (cond t x y) ≡ 1
either true x y a b = a refl
either false x y a b = b refl

-- the last bytes of a character
abbrev last : ℕ → List ℕ
last c = (128 + c % 64) ∷ []

abbrev last_two : ℕ → List ℕ
last_two c = (128 + (c / 64) % 64) ∷ last c

abbrev last_three : ℕ → List ℕ
last_three c = (128 + (c / 4096) % 64) ∷ last_two c

abbrev two : ℕ → List ℕ
two c = (192 + c / 64) ∷ last c

abbrev three : ℕ → List ℕ
three c = (224 + c / 4096) ∷ last_two c

abbrev four : ℕ → List ℕ
four c = (240 + c / 262144) ∷ last_three c

width_two : (c : ℕ) → width (two c) ≡ 1
width_two c = width_first (192 + c / 64) (last c) (first (192 + c / 64) (omega arith)) ∙ ap (λ n. 1 + n) (width_next c [])

width_three : (c : ℕ) → width (three c) ≡ 1
width_three c =
    width_first (224 + c / 4096) (last_two c) (first (224 + c / 4096) (omega arith))
    ∙ ap (λ n. 1 + n) (width_next (c / 64) (last c) ∙ width_next c [])

width_four : (c : ℕ) → width (four c) ≡ 1
width_four c =
    width_first (240 + c / 262144) (last_three c) (first (240 + c / 262144) (omega arith))
    ∙ ap (λ n. 1 + n) (width_next (c / 4096) (last_two c) ∙ width_next (c / 64) (last c) ∙ width_next c [])

-- a character is one wide
width_one : (c : ℕ) → width (encode c) ≡ 1
unfolding encode
width_one c =
    either (nat_lt c 128) (c ∷ []) (cond (nat_lt c 2048) (two c) (cond (nat_lt c 65536) (three c) (four c)))
    (λ h. width_first c [] (ap (λ t. t || nat_le 192 c) h))
    (λ h. either (nat_lt c 2048) (two c) (cond (nat_lt c 65536) (three c) (four c)) (λ l. width_two c)
    (λ l. either (nat_lt c 65536) (three c) (four c) (λ k. width_three c) (λ k. width_four c)))

one_more : (m n : ℕ) → m ≡ n → 1 + m ≡ suc n
one_more m n e = omega (arith, e)

width_all : (cs : List ℕ) → width (encodes cs) ≡ length cs
width_all [] = refl
width_all (c ∷ cs) =
    sum_by-append counted (encode c) (encodes cs)
    ∙ ap (λ n. n + width (encodes cs)) (width_one c)
    ∙ one_more (width (encodes cs)) (length cs) (width_all cs)

pub widths_count_characters : WidthsCountCharacters
widths_count_characters text u = ap width (sym (encodes-chars text u)) ∙ width_all (chars text)
