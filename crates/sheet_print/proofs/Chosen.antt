-- Unions of objects that are chosen from one list.
use Rattle.std.proofs.Common.{◌≡◌, refl, sym, ap, ◌∙◌, ℕ, Bool, true, false, cond, List, [], ◌∷◌}
use Rattle.std.specs.Prelude.{◌||◌, map, filter, fold}
use Rattle.std.specs.List.{AllByRecursion, list_any}
use Rattle.std.specs.declared.cmp.Ordering.{Ordering}
use Rattle.std.specs.Ordering.{nat_cmp, on, ordering_reverse}
use Rattle.std.specs.Cmp.{tied_itself}
use Rattle.sheet_values.specs.Sorted as sorted
use Rattle.sheet_values.specs.Order.{value_cmp}
use Rattle.sheet_values.specs.OrderLaws.{value_total, value_same}
use Rattle.sheet_values.specs.Sets.{IsBelow, IsRising, insert, union}
use Rattle.sheet_values.specs.declared.value.Value.{Value}
use Rattle.sheet_values.specs.declared.value.Value.TheVariants.{Object}
use Rattle.sheet_values.proofs.Merging.{union_none, union_greater, union_equal}
use Rattle.sheet_meaning.specs.Workbook.{is_child, children_in}
use Rattle.sheet_meaning.specs.declared.workbook.LiveObject.{LiveObject}

abbrev pub object : LiveObject → Value
object x = Object x.number

abbrev pub by_number : LiveObject → LiveObject → Ordering
by_number = on (λ (x : LiveObject). x.number) nat_cmp

-- the chosen objects, as values
abbrev pub chosen : (LiveObject → Bool) → List LiveObject → List Value
chosen p xs = map object (filter p xs)

pub filter_alike : (p q : LiveObject → Bool) (xs : List LiveObject) → AllByRecursion (λ x. p x ≡ q x) xs → filter p xs ≡ filter q xs
filter_alike p q [] h = refl
filter_alike p q (x ∷ xs) h =
    ap (λ b. cond b (x ∷ filter p xs) (filter p xs)) h.0 ∙ ap (λ l. cond (q x) (x ∷ l) l) (filter_alike p q xs h.1)

pub for_all : (P : LiveObject → Type 0) → ((x : LiveObject) → P x) → (xs : List LiveObject) → AllByRecursion P xs
for_all P h [] = tt
for_all P h (x ∷ xs) = (h x, for_all P h xs)

below_chosen : (p : LiveObject → Bool) (x : LiveObject) (xs : List LiveObject) → sorted.IsBelow by_number x xs → IsBelow (object x) (chosen p xs)
below_chosen p x [] b = tt
below_chosen p x (y ∷ ys) b =
    elim (p y) as (λ t. IsBelow (object x) (map object (cond t (y ∷ filter p ys) (filter p ys)))) [
      | true ↦ (b.0, below_chosen p x ys b.1)
      | false ↦ below_chosen p x ys b.1
    ]

rising_chosen : (p : LiveObject → Bool) (xs : List LiveObject) → sorted.IsRising by_number xs → IsRising (chosen p xs)
rising_chosen p [] r = tt
rising_chosen p (x ∷ xs) r =
    elim (p x) as (λ t. IsRising (map object (cond t (x ∷ filter p xs) (filter p xs)))) [
      | true ↦ (below_chosen p x xs r.0, rising_chosen p xs r.1)
      | false ↦ rising_chosen p xs r.1
    ]

-- a value below all others goes to the front
to_front : (v : Value) (vs : List Value) → IsRising vs → IsBelow v vs → insert v vs ≡ v ∷ vs
to_front v vs r b = sym (ap (insert v) (union_none value_cmp value_total vs r)) ∙ union_none value_cmp value_total (v ∷ vs) (b, r)

-- also where the second list begins with it
front_of_second : (v : Value) (us vs : List Value) → IsRising us → IsBelow v us → IsRising (v ∷ vs) → union us (v ∷ vs) ≡ v ∷ union us vs
front_of_second v [] vs r b s = refl
front_of_second v (u ∷ us) vs r b s = union_greater value_cmp value_total u v us vs r s (value_total.antisymm u v ∙ ap ordering_reverse b.0)

-- what is chosen by one of two tests is the union of what each chooses
pub chosen_by_either : (p q : LiveObject → Bool) (xs : List LiveObject) → sorted.IsRising by_number xs →
    union (chosen p xs) (chosen q xs) ≡ chosen (λ x. p x || q x) xs
chosen_by_either p q [] r = refl
chosen_by_either p q (x ∷ xs) r =
    let v = object x in
    let us = chosen p xs in
    let vs = chosen q xs in
    let both = chosen (λ y. p y || q y) xs in
    let more = chosen_by_either p q xs r.1 in
    let us_rise = rising_chosen p xs r.1 in
    let vs_rise = rising_chosen q xs r.1 in
    let us_above = below_chosen p x xs r.0 in
    let vs_above = below_chosen q x xs r.0 in
    elim (p x) as (λ a. union (map object (cond a (x ∷ filter p xs) (filter p xs))) (map object (cond (q x) (x ∷ filter q xs) (filter q xs)))
    ≡ map object (cond (a || q x) (x ∷ filter (λ y. p y || q y) xs) (filter (λ y. p y || q y) xs))) [
      | true ↦
          elim (q x) as (λ b. union (v ∷ us) (map object (cond b (x ∷ filter q xs) (filter q xs))) ≡ v ∷ both) [
            | true ↦
                union_equal value_cmp value_total v v us vs (us_above, us_rise) (vs_above, vs_rise) value_same (tied_itself value_total v)
                ∙ ap (λ l. v ∷ l) more
            | false ↦ ap (insert v) more ∙ to_front v both (rising_chosen (λ y. p y || q y) xs r.1) (below_chosen (λ y. p y || q y) x xs r.0)
          ]
      | false ↦
          elim (q x) as (λ b. union us (map object (cond b (x ∷ filter q xs) (filter q xs)))
          ≡ map object (cond b (x ∷ filter (λ y. p y || q y) xs) (filter (λ y. p y || q y) xs))) [
            | true ↦ front_of_second v us vs us_rise us_above (vs_above, vs_rise) ∙ ap (λ l. v ∷ l) more
            | false ↦ more
          ]
    ]

or_false : (a : Bool) → a ≡ (a || false)
or_false true = refl
or_false false = refl

or_apart : (a b c : Bool) → ((a || b) || c) ≡ (a || (b || c))
or_apart true b c = refl
or_apart false b c = refl

module _ (xs : List LiveObject) (r : sorted.IsRising by_number xs) (k : ℕ) where
  -- the objects of a column under one of these, with some others
  with_children : (p : LiveObject → Bool) (parents : List ℕ) →
      fold union (chosen p xs) (map (λ o. children_in xs o k) parents) ≡ chosen (λ x. p x || list_any (λ o. is_child o k x) parents) xs
  with_children p [] = ap (map object) (filter_alike p (λ x. p x || false) xs (for_all (λ x. p x ≡ (p x || false)) (λ x. or_false (p x)) xs))
  with_children p (o ∷ parents) =
      ap (λ l. fold union l (map (λ n. children_in xs n k) parents)) (chosen_by_either p (is_child o k) xs r)
      ∙ with_children (λ x. p x || is_child o k x) parents
      ∙ ap (map object)
      (filter_alike (λ x. (p x || is_child o k x) || list_any (λ n. is_child n k x) parents)
      (λ x. p x || (is_child o k x || list_any (λ n. is_child n k x) parents)) xs
      (for_all (λ x. ((p x || is_child o k x) || list_any (λ n. is_child n k x) parents) ≡ (p x || (is_child o k x || list_any (λ n. is_child n k x) parents)))
      (λ x. or_apart (p x) (is_child o k x) (list_any (λ n. is_child n k x) parents)) xs))

  none_chosen : (ys : List LiveObject) → chosen (λ x. false) ys ≡ []
  none_chosen [] = refl
  none_chosen (y ∷ ys) = none_chosen ys

  -- the objects of a column under one of these
  pub chosen_children : (parents : List ℕ) →
      fold union [] (map (λ o. children_in xs o k) parents) ≡ chosen (λ x. list_any (λ o. is_child o k x) parents) xs
  chosen_children parents =
      ap (λ l. fold union l (map (λ o. children_in xs o k) parents)) (sym (none_chosen xs)) ∙ with_children (λ x. false) parents
