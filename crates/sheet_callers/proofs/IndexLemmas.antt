-- Texts found by a look-up.
use Rattle.std.proofs.Common.{◌≡◌, ℕ, ◌+◌, ◌++◌, Bool, true, false, cond, ◌||◌, if◌then◌else◌, List}
use Rattle.std.proofs.Common.{[], ◌∷◌, map, position, Some, None, is_some, refl, sym, ap, ◌∙◌, not}
use Rattle.std.specs.List.{prefix_len, list_any, position_from, AllByRecursion, IsDistinct}
use Rattle.std.proofs.lemmas.Bool.{true≢false}
use Rattle.std.proofs.lemmas.Iterator.Adapters.{position_from-zero}
use Rattle.indexmap.specs.IndexSet.{insert_key}
use Rattle.std.proofs.lemmas.List.{length-map, map-append}

prefix_len-map : {X Y : Type 0} (f : X → Y) (test : Y → Bool) (xs : List X) → prefix_len test (map f xs) ≡ prefix_len (λ x. test (f x)) xs
prefix_len-map f test [] = refl
prefix_len-map f test (x ∷ xs) = rw (prefix_len-map f test xs) refl

-- a place found by a test on the images
pub position-map : {X Y : Type 0} (f : X → Y) (test : Y → Bool) (xs : List X) → position test (map f xs) ≡ position (λ x. test (f x)) xs
position-map f test xs = rw (length-map xs f, prefix_len-map f (λ y. not (test y)) xs) refl

first_found : {X : Type 0} (test : X → Bool) (i : ℕ) (xs : List X) (b : Bool)
    → cond b (Some i) (position_from test (i + 1) xs) ≡ None → (position_from test (i + 1) xs ≡ None → list_any test xs ≡ false)
    → (b || list_any test xs) ≡ false
first_found test i xs true none more = absurd (true≢false (ap is_some none))
first_found test i xs false none more = more none

none_from : {X : Type 0} (test : X → Bool) (i : ℕ) (xs : List X) → position_from test i xs ≡ None → list_any test xs ≡ false
none_from test i [] none = refl
none_from test i (x ∷ xs) none = first_found test i xs (test x) none (none_from test (i + 1) xs)

-- where a text has no place, none is equal to it
none_found : {X : Type 0} (test : X → Bool) (xs : List X) → position test xs ≡ None → list_any test xs ≡ false
none_found test xs none = none_from test 0 xs (sym (position_from-zero test xs) ∙ none)

-- the images of the keys, behind a new key
pub images-after-new : {X Y : Type 0} (eq : X → X → Bool) (f : X → Y) (test : Y → Bool) (ks : List X) (k : X) (ns : List X)
    → ((x : X) → eq k x ≡ test (f x)) → position test (map f ks) ≡ None → ns ≡ insert_key eq ks k → map f ns ≡ map f ks ++ f k ∷ []
images-after-new eq f test ks k ns same none is =
    let absent : list_any (eq k) ks ≡ false =
    ap (λ t. list_any t ks) (λ i x. same x i) ∙ none_found (λ x. test (f x)) ks (sym (position-map f test ks) ∙ none) in
    ap (map f) (is ∙ ap (λ b. if b then ks else ks ++ k ∷ []) absent) ∙ map-append f ks (k ∷ [])

all-differ : {X Y : Type 0} (eq : X → X → Bool) (f : X → Y) (same : Y → Y → Bool) → ((a b : X) → eq a b ≡ same (f a) (f b)) → (k : X) (xs : List X)
    → AllByRecursion (λ x. eq k x ≡ false) xs → AllByRecursion (λ y. same (f k) y ≡ false) (map f xs)
all-differ eq f same alike k [] all = tt
all-differ eq f same alike k (x ∷ xs) all = (sym (alike k x) ∙ all.0, all-differ eq f same alike k xs all.1)

-- the images of keys that differ
pub distinct-images : {X Y : Type 0} (eq : X → X → Bool) (f : X → Y) (same : Y → Y → Bool) → ((a b : X) → eq a b ≡ same (f a) (f b)) → (xs : List X)
    → IsDistinct eq xs → IsDistinct same (map f xs)
unfolding IsDistinct
distinct-images eq f same alike [] all = tt
distinct-images eq f same alike (x ∷ xs) all = (all-differ eq f same alike x xs all.0, distinct-images eq f same alike xs all.1)
