-- Keys stand in the order of their items.
use Rattle.std.proofs.Common.{◌≡◌, refl, sym, ap, ◌∙◌, List, [], ◌∷◌}
use Rattle.std.specs.Prelude.{map}
use Rattle.std.specs.List.{AllByRecursion}
use Rattle.std.specs.BTreeSet.{insert_key}
use Rattle.std.specs.declared.cmp.Ordering.{Ordering}
use Rattle.std.specs.declared.cmp.Ordering.TheVariants.{Less, Equal, Greater}
use Rattle.std.specs.Ordering.{match_ordering, nat_cmp, ordering_then}
use Rattle.sheet_values.specs.Sorted.{insert, by_order}
use Rattle.sheet_columns.specs.ItemOrder.{item_cmp, kind_rank, object_of, column_of}
use Rattle.sheet_columns.specs.declared.item.Item.{Item}
use Rattle.sheet_columns.specs.declared.item.Item.TheVariants.{Live, Up, Extent, Stored}
use Rattle.sheet_eval_sets.specs.Keys.{Key, key_of, item_of, IsKey}

pub key_itself : (i : Item) → item_of (key_of i) ≡ i
key_itself (Live o) = refl
key_itself (Up o) = refl
key_itself (Extent o c) = refl
key_itself (Stored o c) = refl

module _ (cmp : Key → Key → Ordering) (alike : (i j : Item) → cmp (key_of i) (key_of j) ≡ item_cmp i j) where
  by_item : (i : Item) (x : Key) → IsKey x → cmp (key_of i) x ≡ item_cmp i (item_of x)
  by_item i x e = ap (cmp (key_of i)) (sym e) ∙ alike i (item_of x)

  pub keys_insert : (i : Item) (ks : List Key) → AllByRecursion IsKey ks → map item_of (insert_key cmp ks (key_of i)) ≡ insert item_cmp i (map item_of ks)
  keys_insert i [] h = ap (λ j. j ∷ []) (key_itself i)
  keys_insert i (x ∷ ks) h =
      elim (cmp (key_of i) x) as (λ r. cmp (key_of i) x ≡ r → map item_of
      (match_ordering r (key_of i ∷ x ∷ ks) (x ∷ ks) (x ∷ insert_key cmp ks (key_of i))) ≡ insert item_cmp i (item_of x ∷ map item_of ks)) [
        | Less ↦ λ e. ap (λ j. j ∷ item_of x ∷ map item_of ks) (key_itself i) ∙ sym (found Less (sym (by_item i x h.0) ∙ e))
        | Equal ↦ λ e. sym (found Equal (sym (by_item i x h.0) ∙ e))
        | Greater ↦ λ e. ap (λ l. item_of x ∷ l) (keys_insert i ks h.1) ∙ sym (found Greater (sym (by_item i x h.0) ∙ e))
      ] refl
    where
      found : (r : Ordering) → item_cmp i (item_of x) ≡ r
          → insert item_cmp i (item_of x ∷ map item_of ks) ≡ by_order r (i ∷ item_of x ∷ map item_of ks) (item_of x ∷ map item_of ks)
          (item_of x ∷ insert item_cmp i (map item_of ks))
      found r e = ap (λ o. by_order o (i ∷ item_of x ∷ map item_of ks) (item_of x ∷ map item_of ks) (item_of x ∷ insert item_cmp i (map item_of ks))) e

then_apart : (r s t : Ordering) → ordering_then (ordering_then r s) t ≡ ordering_then r (ordering_then s t)
then_apart Less s t = refl
then_apart Equal s t = refl
then_apart Greater s t = refl

-- the order of keys is that of items
pub alike_keys : (i j : Item)
    → ordering_then (ordering_then (nat_cmp (kind_rank i) (kind_rank j)) (nat_cmp (object_of i) (object_of j)))
    (nat_cmp (column_of i) (column_of j)) ≡ item_cmp i j
alike_keys i j = then_apart (nat_cmp (kind_rank i) (kind_rank j)) (nat_cmp (object_of i) (object_of j)) (nat_cmp (column_of i) (column_of j))

pub still_keys : (cmp : Key → Key → Ordering) (i : Item) (ks : List Key) → AllByRecursion IsKey ks → AllByRecursion IsKey (insert_key cmp ks (key_of i))
still_keys cmp i [] h = (ap key_of (key_itself i), tt)
still_keys cmp i (x ∷ ks) h =
    elim (cmp (key_of i) x) as (λ r. AllByRecursion IsKey (match_ordering r (key_of i ∷ x ∷ ks) (x ∷ ks) (x ∷ insert_key cmp ks (key_of i)))) [
      | Less ↦ (ap key_of (key_itself i), h)
      | Equal ↦ h
      | Greater ↦ (h.0, still_keys cmp i ks h.1)
    ]
