-- The names of columns whose types are known.
use Rattle.std.proofs.Common.{◌≡◌, refl, sym, ap, ◌∙◌, subst, ℕ, ◌+◌, ◌<◌, ◌≤◌, length, inl, inr, Bool, true, false, if◌then◌else◌, List, [], ◌∷◌}
use Rattle.std.proofs.Common.{◌++◌, map, Some, arith}
use Rattle.std.specs.Prelude.{◌||◌, ◌⊎◌, bytes_eq}
use Rattle.std.specs.List.{list_any}
use Rattle.std.proofs.lemmas.Bool.{both_ways}
use Rattle.std.proofs.lemmas.List.{map-append}
use Rattle.std.proofs.lemmas.List.Folds.{list_any-append}
use Rattle.std.proofs.lemmas.Slice.Eq.{bytes_eq-Decides}
use Rattle.indexmap.specs.IndexSet.{insert_key}
use Rattle.sheet_values.specs.declared.value.Kind.{Kind}
use Rattle.sheet_columns.specs.declared.tree.Node.{Node}
use Rattle.sheet_columns.specs.Tree.{name_of}
use Rattle.sheet_types_rounds.specs.Mentions.{is_among}
use Rattle.sheet_types_rounds.specs.Waiting.{with_name, IsOpen, HoldKnown, HoldKnownBelow}
use Rattle.sheet_types_rounds.proofs.Alike.{neither}
use Rattle.sheet_types_rounds.proofs.SteadyLemmas.{below, some_is, counted}

pub list_any-map : {X Y : Type 0} (f : X → Y) (test : Y → Bool) (xs : List X) → list_any test (map f xs) ≡ list_any (λ x. test (f x)) xs
list_any-map f test [] = refl
list_any-map f test (x ∷ xs) = ap (λ b. test (f x) || b) (list_any-map f test xs)

-- the names after one that is inserted
pub keys_with : {K : Type 0} (f : K → List ℕ) (eq : K → K → Bool) (ks new : List K) (k : K) → ((x : K) → eq k x ≡ bytes_eq (f k) (f x))
    → new ≡ insert_key eq ks k → map f new ≡ with_name (map f ks) (f k)
keys_with f eq ks new k same after =
    let test : list_any (eq k) ks ≡ is_among (map f ks) (f k) = ap (λ t. list_any t ks) (λ i x. same x i) ∙ sym (list_any-map f (bytes_eq (f k)) ks) in
    ap (map f) after ∙ by_answer (list_any (eq k) ks) (is_among (map f ks) (f k)) test
  where
    by_answer : (a b : Bool) → a ≡ b → map f (if a then ks else ks ++ k ∷ []) ≡ (if b then map f ks else map f ks ++ f k ∷ [])
    by_answer true true is = refl
    by_answer true false is = absurd cc
    by_answer false true is = absurd cc
    by_answer false false is = map-append f ks (k ∷ [])

-- what isn't among more names isn't among fewer, and isn't the new one
fewer : (ns : List (List ℕ)) (one name : List ℕ) → is_among (with_name ns one) name ≡ false → is_among ns name ≡ false
fewer ns one name other = by_answer (is_among ns one) other
  where
    by_answer : (b : Bool) → is_among (if b then ns else ns ++ one ∷ []) name ≡ false → is_among ns name ≡ false
    by_answer true none = none
    by_answer false none = (neither (is_among ns name) (is_among (one ∷ []) name) (sym (list_any-append _ ns (one ∷ [])) ∙ none)).0

not_new : (ns : List (List ℕ)) (one : List ℕ) → is_among (with_name ns one) one ≡ false → ⊥
not_new ns one other = by_answer (is_among ns one) refl other
  where
    by_answer : (b : Bool) → is_among ns one ≡ b → is_among (if b then ns else ns ++ one ∷ []) one ≡ false → ⊥
    by_answer true is none = both_ways (is_among ns one) none is
    by_answer false is none =
        let last = (neither (is_among ns one) (is_among (one ∷ []) one) (sym (list_any-append _ ns (one ∷ [])) ∙ none)).1 in
        both_ways (bytes_eq one one) ((neither (bytes_eq one one) false last).0) ((bytes_eq-Decides one one).1 refl)

-- one column more, whose name is noted
pub known_noted : (n : ℕ) (ns : List (List ℕ)) (one : List ℕ) (nodes : List Node) (kinds : List Kind) → HoldKnownBelow n ns nodes kinds
    → name_of nodes n ≡ Some one
    → HoldKnownBelow (n + 1) (with_name ns one) nodes kinds
known_noted n ns one nodes kinds known is c name lt got other = by_place (below c n lt)
  where
    by_place : (c < n) ⊎ (c ≡ n) → IsOpen nodes kinds c
    by_place (inl before) = known c name before got (fewer ns one name other)
    by_place (inr here) =
        let same : name ≡ one = some_is (sym got ∙ ap (name_of nodes) here ∙ is) in
        absurd (not_new ns one (sym (ap (is_among (with_name ns one)) same) ∙ other))

-- one column more, which is open
pub known_open : (n : ℕ) (ns : List (List ℕ)) (nodes : List Node) (kinds : List Kind) → HoldKnownBelow n ns nodes kinds → IsOpen nodes kinds n
    → HoldKnownBelow (n + 1) ns nodes kinds
known_open n ns nodes kinds known there c name lt got other = by_place (below c n lt)
  where
    by_place : (c < n) ⊎ (c ≡ n) → IsOpen nodes kinds c
    by_place (inl before) = known c name before got other
    by_place (inr here) = subst (IsOpen nodes kinds) (sym here) there

-- all columns
pub known_all : (n : ℕ) (ns : List (List ℕ)) (nodes : List Node) (kinds : List Kind) → length nodes ≤ n → HoldKnownBelow n ns nodes kinds
    → HoldKnown ns nodes kinds
known_all n ns nodes kinds all known c name got other = known c name (omega (arith, counted nodes c name got)) got other
