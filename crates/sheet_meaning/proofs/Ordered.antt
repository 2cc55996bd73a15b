-- Items in order.
use Rattle.std.proofs.Common.{◌≡◌, refl, ap, subst, ⊎_elim, Bool, true, false, List, [], ◌∷◌}
use Rattle.std.specs.Prelude.{◌||◌, fold}
use Rattle.std.specs.declared.cmp.Ordering.TheVariants.{Less, Equal, Greater}
use Rattle.std.specs.Ordering.{is_eq}
use Rattle.sheet_values.specs.Sorted.{contains, insert, by_order}
use Rattle.sheet_columns.specs.ItemOrder.{item_cmp, item_total}
use Rattle.sheet_columns.specs.declared.item.Item.{Item}
use Rattle.sheet_meaning.specs.Support.{in_order}
use Rattle.sheet_meaning.proofs.Members.{IsIn}
use Rattle.sheet_meaning.proofs.FormulaCells.{equal_itself}

-- whether an item is one of some
abbrev has : Item → List Item → Bool
has x xs = contains item_cmp x xs

itself : (x : Item) (xs : List Item) → has x (x ∷ xs) ≡ true
itself x xs = ap (λ r. is_eq r || has x xs) (equal_itself item_cmp item_total x)

behind : (x y : Item) (xs : List Item) → has x xs ≡ true → has x (y ∷ xs) ≡ true
behind x y xs h = elim (is_eq (item_cmp x y)) as (λ b. (b || has x xs) ≡ true) [ true ↦ refl | false ↦ h ]

-- it is one of a list where it is one of the list's rest, if the rest grows
grown : (x y : Item) (xs ys : List Item) → (has x xs ≡ true → has x ys ≡ true) → has x (y ∷ xs) ≡ true → has x (y ∷ ys) ≡ true
grown x y xs ys g h = elim (is_eq (item_cmp x y)) as (λ b. (b || has x xs) ≡ true → (b || has x ys) ≡ true) [ true ↦ λ e. refl | false ↦ g ] h

inserted : (y : Item) (xs : List Item) → has y (insert item_cmp y xs) ≡ true
inserted y [] = itself y []
inserted y (z ∷ zs) =
    elim (item_cmp y z) as (λ o. item_cmp y z ≡ o → has y (by_order o (y ∷ z ∷ zs) (z ∷ zs) (z ∷ insert item_cmp y zs)) ≡ true) [
      | Less ↦ λ e. itself y (z ∷ zs)
      | Equal ↦ λ e. ap (λ r. is_eq r || has y zs) e
      | Greater ↦ λ e. behind y z (insert item_cmp y zs) (inserted y zs)
    ] refl

stays : (x y : Item) (xs : List Item) → has x xs ≡ true → has x (insert item_cmp y xs) ≡ true
stays x y [] h = cc
stays x y (z ∷ zs) h =
    elim (item_cmp y z) as (λ o. has x (by_order o (y ∷ z ∷ zs) (z ∷ zs) (z ∷ insert item_cmp y zs)) ≡ true) [
      | Less ↦ behind x y (z ∷ zs) h
      | Equal ↦ h
      | Greater ↦ grown x z zs (insert item_cmp y zs) (stays x y zs) h
    ]

abbrev put : List Item → Item → List Item
put xs i = insert item_cmp i xs

all_stay : (x : Item) (xs ys : List Item) → has x xs ≡ true → has x (fold put xs ys) ≡ true
all_stay x xs [] h = h
all_stay x xs (y ∷ ys) h = all_stay x (put xs y) ys (stays x y xs h)

put_in : (x : Item) (xs ys : List Item) → IsIn x ys → has x (fold put xs ys) ≡ true
put_in x xs [] h = absurd h
put_in x xs (y ∷ ys) h =
    ⊎_elim
    (λ e. all_stay x (put xs y) ys (subst (λ z. has x (put xs z) ≡ true) e (inserted x xs)))
    (λ k. put_in x (put xs y) ys k)
    h

pub ordered_in : (x : Item) (items : List Item) → IsIn x items → contains item_cmp x (in_order items) ≡ true
ordered_in x items h = put_in x [] items h
