-- Numbers that are cut, and the parts of a value between commas.
use Rattle.std.proofs.Common.{◌≡◌, ◌≢◌, ℕ, zero, suc, ◌+◌, ◌-◌, ◌*◌, ◌<◌, min, Bool, true, false, cond, ◌&&◌, ◌||◌, List, [], ◌∷◌, length, get_or}
use Rattle.std.proofs.Common.{take, drop, refl, sym, ap, ◌∙◌, arith}
use Rattle.std.specs.List.{list_all, list_any}
use Rattle.std.specs.Char.{is_ascii_digit, digit_value}
use Rattle.std.specs.Str.Parse.{digits_value_after}
use Rattle.std.proofs.lemmas.List.{take_all, length-drop}
use Rattle.std.proofs.lemmas.Bool.{eq-eqb, ne_eqb, true≢false}
use Rattle.std.proofs.lemmas.Bool.Decides.{nat_tests}
use Rattle.sheet_http.specs.Fields.{grow, between_commas, is_close, lists_close, cut_value}

both_true : (x y : Bool) → (x && y) ≡ true → (x ≡ true) × (y ≡ true)
both_true true true e = (refl, refl)
both_true true false e = (refl, e)
both_true false y e = (e, absurd (true≢false (sym e)))

digit_of : (b : ℕ) → is_ascii_digit b ≡ true → digit_value b ≡ b - 48
digit_of b e = grind (arith, nat_tests)

pub cut_is : (ds : List ℕ) (n : ℕ) → list_all is_ascii_digit ds ≡ true → cut_value (min n 65537) ds ≡ min (digits_value_after 10 n ds) 65537
cut_is [] n all = refl
cut_is (b ∷ bs) n all =
    let tests = both_true (is_ascii_digit b) (list_all is_ascii_digit bs) all in
    let d = digit_of b tests.0 in
    let e : min (min n 65537 * 10 + (b - 48)) 65537 ≡ min (n * 10 + digit_value b) 65537 = omega (arith, d) in
    ap (λ k. cut_value k bs) e ∙ cut_is bs (n * 10 + digit_value b) tests.1

commas_at : (xs : List ℕ) (i : ℕ) → i < length xs → get_or xs i 0 ≡ 44 → ((k : ℕ) → k < i → get_or xs k 0 ≢ 44)
    → between_commas xs ≡ take i xs ∷ between_commas (drop (suc i) xs)
commas_at [] i inside comma before = absurd (omega arith)
commas_at (b ∷ bs) zero inside comma before = ap (λ t. cond t ([] ∷ between_commas bs) (grow b (between_commas bs))) (eq-eqb b 44 comma)
commas_at (b ∷ bs) (suc i) inside comma before =
    ap (λ t. cond t ([] ∷ between_commas bs) (grow b (between_commas bs))) (ne_eqb b 44 (before 0 (omega arith)))
    ∙ ap (grow b) (commas_at bs i (omega arith) comma (λ k below. before (suc k) (omega arith)))

commas_whole : (xs : List ℕ) → ((k : ℕ) → k < length xs → get_or xs k 0 ≢ 44) → between_commas xs ≡ xs ∷ []
commas_whole [] none = refl
commas_whole (b ∷ bs) none =
    ap (λ t. cond t ([] ∷ between_commas bs) (grow b (between_commas bs))) (ne_eqb b 44 (none 0 (omega arith)))
    ∙ ap (grow b) (commas_whole bs (λ k below. none (suc k) (omega arith)))

pub lists_at : (xs : List ℕ) (i : ℕ) → i < length xs → get_or xs i 0 ≡ 44 → ((k : ℕ) → k < i → get_or xs k 0 ≢ 44)
    → lists_close xs ≡ (is_close (take i xs) || lists_close (drop (suc i) xs))
lists_at xs i inside comma before = ap (list_any is_close) (commas_at xs i inside comma before)

or_false : (b : Bool) → (b || false) ≡ b
or_false true = refl
or_false false = refl

pub lists_whole : (xs : List ℕ) → ((k : ℕ) → k < length xs → get_or xs k 0 ≢ 44) → lists_close xs ≡ is_close xs
lists_whole xs none = ap (list_any is_close) (commas_whole xs none) ∙ or_false (is_close xs)

drop_one : (i : ℕ) (xs : List ℕ) → drop 1 (drop i xs) ≡ drop (suc i) xs
drop_one zero xs = refl
drop_one (suc i) [] = refl
drop_one (suc i) (x ∷ xs) = drop_one i xs

pub tail_is : (xs m : List ℕ) (i : ℕ) → m ≡ drop i xs → take (length m - 1) (drop 1 m) ≡ drop (suc i) xs
tail_is xs m i same = take_all (length m - 1) (drop 1 m) (omega (arith, length-drop 1 m)) ∙ ap (drop 1) same ∙ drop_one i xs
