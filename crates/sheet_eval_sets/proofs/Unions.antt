-- Unions of many sets, in any grouping.
use Rattle.std.proofs.Common.{◌≡◌, refl, sym, ap, ◌∙◌, List, [], ◌∷◌, ◌++◌}
use Rattle.std.specs.Prelude.{fold}
use Rattle.std.proofs.lemmas.List.Sums.{fold-append}
use Rattle.std.specs.declared.cmp.Ordering.{Ordering}
use Rattle.std.specs.declared.cmp.Ordering.TheVariants.{Less, Equal, Greater}
use Rattle.std.specs.Cmp.{IsTotalOrder, tied_itself}
use Rattle.sheet_values.specs.Sorted.{by_order, insert, union}
use Rattle.std.specs.Ordering.{ordering_reverse}
use Rattle.sheet_values.specs.OrderLaws.{value_total, value_same}
use Rattle.sheet_values.specs.Order.{value_cmp}
use Rattle.sheet_values.specs.declared.value.Value.{Value}

module _ {A : Type 0} (cmp : A → A → Ordering) (total : IsTotalOrder cmp) (same : (x y : A) → cmp x y ≡ Equal → x ≡ y) where
  -- what insert gives, by what a comparison answered
  by : (x y : A) (ys : List A) (r : Ordering) → cmp x y ≡ r → insert cmp x (y ∷ ys) ≡ by_order r (x ∷ y ∷ ys) (y ∷ ys) (y ∷ insert cmp x ys)
  by x y ys r e = ap (λ o. by_order o (x ∷ y ∷ ys) (y ∷ ys) (y ∷ insert cmp x ys)) e

  insert_twice : (x : A) (ys : List A) → insert cmp x (insert cmp x ys) ≡ insert cmp x ys
  insert_twice x [] = by x x [] Equal (tied_itself total x)
  insert_twice x (y ∷ ys) =
      elim (cmp x y) as (λ r. cmp x y ≡ r → insert cmp x (by_order r (x ∷ y ∷ ys) (y ∷ ys) (y ∷ insert cmp x ys)) ≡ by_order r (x ∷ y ∷ ys) (y ∷ ys)
      (y ∷ insert cmp x ys)) [
        | Less ↦ λ e. by x x (y ∷ ys) Equal (tied_itself total x)
        | Equal ↦ λ e. by x y ys Equal e
        | Greater ↦ λ e. by x y (insert cmp x ys) Greater e ∙ ap (λ l. y ∷ l) (insert_twice x ys)
      ] refl

  below : (x y z : A) → cmp x y ≡ Less → cmp y z ≡ Less → cmp x z ≡ Less
  below x y z a b = total.trans x y z a b

  turned : (x y : A) → cmp x y ≡ Greater → cmp y x ≡ Less
  turned x y e = total.antisymm y x ∙ ap ordering_reverse e

  turned_less : (x y : A) → cmp x y ≡ Less → cmp y x ≡ Greater
  turned_less x y e = total.antisymm y x ∙ ap ordering_reverse e

  -- x goes before y
  swap_less : (x y : A) (zs : List A) → cmp x y ≡ Less → insert cmp x (insert cmp y zs) ≡ insert cmp y (insert cmp x zs)
  swap_less x y [] e = by x y [] Less e ∙ sym (by y x [] Greater (turned_less x y e))
  swap_less x y (z ∷ zs) e =
      elim (cmp y z) as (λ r. cmp y z ≡ r → insert cmp x (by_order r (y ∷ z ∷ zs) (z ∷ zs) (z ∷ insert cmp y zs)) ≡ insert cmp y (insert cmp x (z ∷ zs))) [
        | Less ↦ λ f.
            by x y (z ∷ zs) Less e
            ∙ sym (ap (insert cmp y) (by x z zs Less (below x y z e f)) ∙ by y x (z ∷ zs) Greater (turned_less x y e) ∙ ap (λ l. x ∷ l) (by y z zs Less f))
        | Equal ↦ λ f.
            let tied : y ≡ z = same y z f in
            let less : cmp x z ≡ Less = ap (cmp x) (sym tied) ∙ e in
            by x z zs Less less
            ∙ sym (ap (insert cmp y) (by x z zs Less less) ∙ by y x (z ∷ zs) Greater (turned_less x y e) ∙ ap (λ l. x ∷ l) (by y z zs Equal f))
        | Greater ↦ λ f.
            elim (cmp x z) as (λ r. cmp x z ≡ r → insert cmp x (z ∷ insert cmp y zs) ≡ insert cmp y (by_order r (x ∷ z ∷ zs) (z ∷ zs) (z ∷ insert cmp x zs))) [
              | Less ↦ λ g.
                  by x z (insert cmp y zs) Less g
                  ∙ sym (by y x (z ∷ zs) Greater (turned_less x y e) ∙ ap (λ l. x ∷ l) (by y z zs Greater f))
              | Equal ↦ λ g. by x z (insert cmp y zs) Equal g ∙ sym (by y z zs Greater f)
              | Greater ↦ λ g.
                  by x z (insert cmp y zs) Greater g
                  ∙ ap (λ l. z ∷ l) (swap_less x y zs e)
                  ∙ sym (by y z (insert cmp x zs) Greater f)
            ] refl
      ] refl

  swap : (x y : A) (zs : List A) → insert cmp x (insert cmp y zs) ≡ insert cmp y (insert cmp x zs)
  swap x y zs =
      elim (cmp x y) as (λ r. cmp x y ≡ r → insert cmp x (insert cmp y zs) ≡ insert cmp y (insert cmp x zs)) [
        | Less ↦ λ e. swap_less x y zs e
        | Equal ↦ λ e. let tied : x ≡ y = same x y e in ap (λ v. insert cmp v (insert cmp y zs)) tied ∙ ap (λ v. insert cmp y (insert cmp v zs)) (sym tied)
        | Greater ↦ λ e. sym (swap_less y x zs (turned x y e))
      ] refl

  union_insert : (x : A) (ys zs : List A) → union cmp (insert cmp x ys) zs ≡ insert cmp x (union cmp ys zs)
  union_insert x [] zs = refl
  union_insert x (y ∷ ys) zs =
      elim (cmp x y) as (λ r. cmp x y ≡ r → union cmp (by_order r (x ∷ y ∷ ys) (y ∷ ys) (y ∷ insert cmp x ys)) zs ≡ insert cmp x
      (insert cmp y (union cmp ys zs))) [
        | Less ↦ λ e. refl
        | Equal ↦ λ e. let tied : x ≡ y =
            same x y e in sym (insert_twice y (union cmp ys zs)) ∙ ap (λ v. insert cmp v (insert cmp y (union cmp ys zs))) (sym tied)
        | Greater ↦ λ e. ap (insert cmp y) (union_insert x ys zs) ∙ swap y x (union cmp ys zs)
      ] refl

  union_apart : (xs ys zs : List A) → union cmp (union cmp xs ys) zs ≡ union cmp xs (union cmp ys zs)
  union_apart [] ys zs = refl
  union_apart (x ∷ xs) ys zs = union_insert x (union cmp xs ys) zs ∙ ap (insert cmp x) (union_apart xs ys zs)

abbrev union_of : List Value → List Value → List Value
union_of = union value_cmp

-- the last set of a union, taken apart
pub last_apart : (old new : List (List Value)) (last part : List Value) → old ≡ new ++ last ∷ []
    → union_of (fold union_of [] old) part ≡ union_of (fold union_of [] new) (union_of last part)
last_apart old new last part e =
    ap (λ l. union_of (fold union_of [] l) part) e
    ∙ ap (λ l. union_of l part) (fold-append union_of [] new (last ∷ []))
    ∙ union_apart value_cmp value_total value_same (fold union_of [] new) last part

pub one_more : (sets : List (List Value)) (part : List Value) → fold union_of [] (sets ++ part ∷ []) ≡ union_of (fold union_of [] sets) part
one_more sets part = fold-append union_of [] sets (part ∷ [])
