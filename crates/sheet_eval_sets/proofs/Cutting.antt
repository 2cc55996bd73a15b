-- A list from a place on, cut behind its first element.
use Rattle.std.proofs.Common.{◌≡◌, ap, ◌∙◌, ℕ, suc, zero, ◌+◌, List, [], ◌∷◌, drop, arith, Some}
use Rattle.std.specs.Prelude.{slice_get}

drop_at : {X : Type 0} (xs : List X) (j : ℕ) (x : X) → slice_get xs j ≡ Some x → drop j xs ≡ x ∷ drop (suc j) xs
drop_at [] zero x e = cc
drop_at [] (suc j) x e = cc
drop_at (y ∷ xs) zero x e = let same : y ≡ x = cc in ap (λ v. v ∷ xs) same
drop_at (y ∷ xs) (suc j) x e = drop_at xs j x e

pub cut_at : {X : Type 0} (s : List X) (k : ℕ) (v : X) → slice_get s k ≡ Some v → drop k s ≡ v ∷ drop (k + 1) s
cut_at s k v e = let one : suc k ≡ k + 1 = omega arith in drop_at s k v e ∙ ap (λ j. v ∷ drop j s) one
