-- The way back to where a change began, and what that keeps.
use Rattle.std.proofs.Common.{◌≡◌, refl, sym, ap, ◌∙◌, subst, ℕ, ◌<◌, zero, suc, List, [], ◌∷◌, ◌++◌, length, take, arith, Some}
use Rattle.std.specs.Prelude.{slice_get, map}
use Rattle.std.specs.List.{AllByRecursion}
use Rattle.std.proofs.lemmas.List.{take_at, length_push}
use Rattle.sheet_state_rows.specs.Rows.{Versions}
use Rattle.sheet_state_rows.proofs.Undo.{get_last, get_old}

-- back at the beginning of a change that began at v
pub back : (v w u : Versions) (mark : ℕ) → mark ≡ length v.earlier → w.earlier ≡ v.earlier ++ v.present ∷ [] →
    slice_get (w.earlier ++ w.present ∷ []) mark ≡ Some u.present → u.earlier ≡ take mark w.earlier → u ≡ v
back v w u mark at began there left =
    let xs = v.earlier in
    let within : length xs < length (xs ++ v.present ∷ []) = let long = length_push xs v.present in omega arith in
    let first : slice_get (w.earlier ++ w.present ∷ []) mark ≡ Some v.present =
    ap (λ l. slice_get (l ++ w.present ∷ []) mark) began
    ∙ ap (slice_get ((xs ++ v.present ∷ []) ++ w.present ∷ [])) at
    ∙ get_old (xs ++ v.present ∷ []) (w.present ∷ []) (length xs) within
    ∙ get_last xs v.present in
    let present : u.present ≡ v.present = let h = sym there ∙ first in cc in
    let earlier : u.earlier ≡ xs = left ∙ ap (take mark) began ∙ ap (λ k. take k (xs ++ v.present ∷ [])) at ∙ take_at xs (v.present ∷ []) (length xs) refl in
    ap (λ t. record { present = t; earlier = u.earlier }) present ∙ ap (λ ts. record { present = v.present; earlier = ts }) earlier

pub all_push : {A : Type 0} (P : A → Type 0) (xs : List A) (x : A) → AllByRecursion P xs → P x → AllByRecursion P (xs ++ x ∷ [])
all_push P [] x h here = (here, tt)
all_push P (y ∷ ys) x h here = (h.0, all_push P ys x h.1 here)

pub all_take : {A : Type 0} (P : A → Type 0) (xs : List A) (k : ℕ) → AllByRecursion P xs → AllByRecursion P (take k xs)
all_take P xs zero h = tt
all_take P [] (suc k) h = tt
all_take P (y ∷ ys) (suc k) h = (h.0, all_take P ys k h.1)

pub all_get : {A : Type 0} (P : A → Type 0) (xs : List A) (k : ℕ) (x : A) → AllByRecursion P xs → slice_get xs k ≡ Some x → P x
all_get P [] k x h e = cc
all_get P (y ∷ ys) zero x h e = let same : y ≡ x = cc in subst P same h.0
all_get P (y ∷ ys) (suc k) x h e = all_get P ys k x h.1 e

pub get_map : {A B : Type 0} (f : A → B) (xs : List A) (k : ℕ) (x : A) → slice_get xs k ≡ Some x → slice_get (map f xs) k ≡ Some (f x)
get_map f [] k x e = cc
get_map f (y ∷ ys) zero x e = let same : y ≡ x = cc in ap (λ z. Some (f z)) same
get_map f (y ∷ ys) (suc k) x e = get_map f ys k x e
