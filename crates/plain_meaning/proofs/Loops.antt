-- The turns of loops over a list.
use Rattle.std.proofs.Common.{Vec, Global, ◌≡◌, refl, sym, ap, ◌∙◌, ℕ, ◌+◌, ◌<◌, List, [], ◌∷◌, ◌++◌, length, get_or, take, Option, Some, None}
use Rattle.std.specs.Prelude.{map, IfOk, Result, Ok, Err}
use Rattle.std.specs.List.{filter_map, cons_option, flat_map}
use Rattle.std.specs.Option.{option_to_list}
use Rattle.std.proofs.lemmas.List.{take_more, map-append, append_assoc}
use Rattle.std.proofs.lemmas.List.Elements.{filter_map-append}
use Rattle.std.proofs.lemmas.Grind.{flat_map-append}

-- an answer that is Ok, at an equal value
pub same_if_ok : {A E : Type 0} (r : Result A E) {x y : A} → x ≡ y → IfOk r (λ a. a ≡ x) → IfOk r (λ a. a ≡ y)
same_if_ok (Ok a) e h = h ∙ e
same_if_ok (Err f) e h = tt

pub same_items_if_ok : {A E : Type 0} (r : Result (Vec A Global) E) {xs ys : List A} → xs ≡ ys → IfOk r (λ l. l.items ≡ xs) → IfOk r (λ l. l.items ≡ ys)
same_items_if_ok (Ok l) e h = h ∙ e
same_items_if_ok (Err f) e h = tt

pub map_map : {A B C : Type 0} (g : B → C) (f : A → B) (xs : List A) → map g (map f xs) ≡ map (λ x. g (f x)) xs
map_map g f [] = refl
map_map g f (x ∷ xs) = ap (λ ys. g (f x) ∷ ys) (map_map g f xs)

listed : {Y : Type 0} (o : Option Y) → option_to_list o ≡ cons_option o []
listed None = refl
listed (Some y) = refl

append_empty : {Y : Type 0} (ys : List Y) → ys ≡ ys ++ []
append_empty [] = refl
append_empty (y ∷ ys) = ap (λ zs. y ∷ zs) (append_empty ys)

module _ {X : Type 0} (xs : List X) (i : ℕ) (x : X) (lt : i < length xs) (e : x ≡ get_or xs i x) where
  pub taken : take (i + 1) xs ≡ take i xs ++ x ∷ []
  taken = take_more xs i x lt ∙ ap (λ y. take i xs ++ y ∷ []) (sym e)

  -- what is made of the list is made of its parts
  pub one_joined : {Y : Type 0} (h : List X → List Y) → ((us vs : List X) → h (us ++ vs) ≡ h us ++ h vs) → (start ys zs : List Y) →
      ys ≡ start ++ h (take i xs) → zs ≡ ys ++ h (x ∷ []) → zs ≡ start ++ h (take (i + 1) xs)
  one_joined h parts start ys zs so_far more =
      more
      ∙ ap (λ l. l ++ h (x ∷ [])) so_far
      ∙ append_assoc start (h (take i xs)) (h (x ∷ []))
      ∙ ap (λ l. start ++ l) (sym (parts (take i xs) (x ∷ [])) ∙ sym (ap h taken))

-- what each of some things gives, one after the other, changed
pub picked_parts : {X Y Z : Type 0} (g : Y → Z) (f : X → Option Y) (us vs : List X) →
    map g (filter_map f (us ++ vs)) ≡ map g (filter_map f us) ++ map g (filter_map f vs)
picked_parts g f us vs = ap (map g) (filter_map-append f us vs) ∙ map-append g (filter_map f us) (filter_map f vs)

pub flat_parts : {X Y Z : Type 0} (g : Y → Z) (f : X → List Y) (us vs : List X) → map g (flat_map f (us ++ vs)) ≡ map g (flat_map f us) ++ map g (flat_map f vs)
flat_parts g f us vs = ap (map g) (flat_map-append f us vs) ∙ map-append g (flat_map f us) (flat_map f vs)

-- one of them
pub one_picked : {X Y Z : Type 0} (g : Y → Z) (f : X → Option Y) (x : X) → map g (option_to_list (f x)) ≡ map g (filter_map f (x ∷ []))
one_picked g f x = ap (map g) (listed (f x))

pub one_flat : {X Y Z : Type 0} (g : Y → Z) (f : X → List Y) (x : X) → map g (f x) ≡ map g (flat_map f (x ∷ []))
one_flat g f x = ap (map g) (append_empty (f x))
