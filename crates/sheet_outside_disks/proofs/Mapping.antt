-- What a loop has mapped so far.
use Rattle.std.proofs.Common.{◌≡◌, ℕ, ◌+◌, ◌<◌, ◌≤◌, List, [], ◌∷◌, ◌++◌, length, take, map, get_or, sym, ◌∙◌, ap}
use Rattle.std.proofs.lemmas.List.{take_more, take_all, map-append}

pub map_more : {A B : Type 0} (f : A → B) (xs : List A) (i : ℕ) (x d : A) → i < length xs → x ≡ get_or xs i d →
    map f (take (i + 1) xs) ≡ map f (take i xs) ++ f x ∷ []
map_more f xs i x d below is = ap (λ l. map f l) (take_more xs i d below ∙ ap (λ y. take i xs ++ y ∷ []) (sym is)) ∙ map-append f (take i xs) (x ∷ [])

pub map_all : {A B : Type 0} (f : A → B) (xs : List A) (i : ℕ) → length xs ≤ i → map f (take i xs) ≡ map f xs
map_all f xs i past = ap (λ l. map f l) (take_all i xs past)
