-- Sets of one value.
use Rattle.std.proofs.Common.{◌≡◌, ap, ◌∷◌, [], List, length, Some}
use Rattle.std.specs.Prelude.{slice_get}

-- a list whose length is 1 is that of its first element
pub only_one : {A : Type 0} (xs : List A) (x : A) → length xs ≡ 1 → slice_get xs 0 ≡ Some x → xs ≡ x ∷ []
only_one [] x l e = cc
only_one (y ∷ []) x l e = let same : y ≡ x = cc in ap (λ z. z ∷ []) same
only_one (y ∷ z ∷ ys) x l e = cc
