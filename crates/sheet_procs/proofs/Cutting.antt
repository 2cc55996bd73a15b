-- Lists from a place on.
use Rattle.std.proofs.Common.{◌≡◌, refl, sym, ap, ◌∙◌, ℕ, zero, suc, ◌+◌, ◌<◌, ◌≤◌, List, [], ◌∷◌, length, drop, get_or, arith}

-- a list from a place on, and nothing behind its end
cut_at : {A : Type 0} (xs : List A) (i : ℕ) (x : A) → i < length xs → x ≡ get_or xs i x → drop i xs ≡ x ∷ drop (suc i) xs
cut_at [] i x lt is = absurd (omega (arith, lt))
cut_at (y ∷ ys) zero x lt is = ap (λ v. v ∷ ys) (sym is)
cut_at (y ∷ ys) (suc i) x lt is = cut_at ys i x (omega (arith, lt)) is

pub cut_here : {A : Type 0} (xs : List A) (i : ℕ) (x : A) → i < length xs → x ≡ get_or xs i x → drop i xs ≡ x ∷ drop (i + 1) xs
cut_here xs i x lt is = let one : suc i ≡ i + 1 = omega arith in cut_at xs i x lt is ∙ ap (λ j. x ∷ drop j xs) one

pub none_left : {A : Type 0} (xs : List A) (i : ℕ) → length xs ≤ i → drop i xs ≡ []
none_left [] zero le = refl
none_left [] (suc i) le = refl
none_left (x ∷ xs) zero le = absurd (omega (arith, le))
none_left (x ∷ xs) (suc i) le = none_left xs i (omega (arith, le))
