-- A set of values with one more.
use Rattle.std.proofs.Common.{◌≡◌, refl, sym, ap, ◌∙◌, subst, Bool, true, false, List, [], ◌∷◌}
use Rattle.std.specs.Prelude.{◌||◌}
use Rattle.std.specs.declared.cmp.Ordering.{Ordering}
use Rattle.std.specs.declared.cmp.Ordering.TheVariants.{Less, Equal, Greater}
use Rattle.std.specs.Ordering.{is_eq}
use Rattle.sheet_values.specs.Sorted.{by_order}
use Rattle.sheet_values.specs.Order.{value_cmp}
use Rattle.sheet_values.specs.OrderLaws.{value_same}
use Rattle.sheet_values.specs.Sets.{contains, insert}
use Rattle.sheet_values.specs.declared.value.Value.{Value}

pub tie : (r : Ordering) → is_eq r ≡ true → r ≡ Equal
tie Less e = cc
tie Equal e = refl
tie Greater e = cc

pub value_is : (x y : Value) → is_eq (value_cmp x y) ≡ true → x ≡ y
value_is x y e = value_same x y (tie (value_cmp x y) e)

-- an inserted value is there
pub has_inserted : (x y : Value) (xs : List Value) → contains x (insert y xs) ≡ (is_eq (value_cmp x y) || contains x xs)
has_inserted x y [] = refl
has_inserted x y (z ∷ zs) =
    elim (value_cmp y z) as (λ o. value_cmp y z ≡ o →
    contains x (by_order o (y ∷ z ∷ zs) (z ∷ zs) (z ∷ insert y zs)) ≡ (is_eq (value_cmp x y) || (is_eq (value_cmp x z) || contains x zs))) [
      | Less ↦ λ e. refl
      | Equal ↦ λ e.
          let same : y ≡ z = value_is y z (ap is_eq e) in
          subst (λ w. (is_eq (value_cmp x z) || contains x zs) ≡ (is_eq (value_cmp x w) || (is_eq (value_cmp x z) || contains x zs))) (sym same)
          (twice (is_eq (value_cmp x z)) (contains x zs))
      | Greater ↦ λ e. ap (λ b. is_eq (value_cmp x z) || b) (has_inserted x y zs) ∙ turned (is_eq (value_cmp x z)) (is_eq (value_cmp x y)) (contains x zs)
    ] refl
  where
    twice : (a b : Bool) → (a || b) ≡ (a || (a || b))
    twice true b = refl
    twice false b = refl

    turned : (a b c : Bool) → (a || (b || c)) ≡ (b || (a || c))
    turned true true c = refl
    turned true false c = refl
    turned false b c = refl
