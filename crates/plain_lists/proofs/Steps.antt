-- The turns of loops over a list.
use Rattle.std.proofs.Common.{◌≡◌, refl, sym, ap, ◌∙◌, ℕ, ◌+◌, ◌<◌, List, [], ◌∷◌, ◌++◌, length, get_or, take, Option, Some, None}
use Rattle.std.specs.Prelude.{map, fold}
use Rattle.std.proofs.lemmas.List.Sums.{fold_more}
use Rattle.std.specs.List.{filter_map, cons_option}
use Rattle.std.specs.Option.{option_to_list}
use Rattle.sheet_values.specs.declared.value.Value.{Value}
use Rattle.sheet_columns.specs.declared.item.Item.TheVariants.{Live}
use Rattle.sheet_meaning.specs.declared.run.Use.TheVariants.{Read}
use Rattle.sheet_meaning.specs.Formula.{live_reads, object_in}
use Rattle.std.proofs.lemmas.List.{take_more, map-append}
use Rattle.std.proofs.lemmas.List.Elements.{filter_map-append}

module _ {X : Type 0} (xs : List X) (i : ℕ) (x : X) (lt : i < length xs) (e : x ≡ get_or xs i x) where
  pub taken : take (i + 1) xs ≡ take i xs ++ x ∷ []
  taken = take_more xs i x lt ∙ ap (λ y. take i xs ++ y ∷ []) (sym e)

  module _ {Y : Type 0} where
    -- each element gives one
    pub one_mapped : (f : X → Y) (ys zs : List Y) (y : Y) → ys ≡ map f (take i xs) → zs ≡ ys ++ y ∷ [] → y ≡ f x → zs ≡ map f (take (i + 1) xs)
    one_mapped f ys zs y so_far more same =
        more
        ∙ ap (λ l. l ++ y ∷ []) so_far
        ∙ ap (λ z. map f (take i xs) ++ z ∷ []) same
        ∙ sym (map-append f (take i xs) (x ∷ []))
        ∙ sym (ap (map f) taken)

    listed : (o : Option Y) → option_to_list o ≡ cons_option o []
    listed None = refl
    listed (Some y) = refl

    -- each element gives one or none
    pub one_picked : (f : X → Option Y) (ys zs : List Y) → ys ≡ filter_map f (take i xs) → zs ≡ ys ++ option_to_list (f x) → zs ≡ filter_map f (take (i + 1) xs)
    one_picked f ys zs so_far more =
        more
        ∙ ap (λ l. l ++ option_to_list (f x)) so_far
        ∙ ap (λ l. filter_map f (take i xs) ++ l) (listed (f x))
        ∙ sym (filter_map-append f (take i xs) (x ∷ []))
        ∙ sym (ap (filter_map f) taken)

  -- what is made of the list is made of its parts
  pub one_joined : {Y : Type 0} (h : List X → List Y) → ((us vs : List X) → h (us ++ vs) ≡ h us ++ h vs) → (ys zs : List Y) → ys ≡ h (take i xs) →
      zs ≡ ys ++ h (x ∷ []) → zs ≡ h (take (i + 1) xs)
  one_joined h parts ys zs so_far more = more ∙ ap (λ l. l ++ h (x ∷ [])) so_far ∙ sym (parts (take i xs) (x ∷ [])) ∙ sym (ap h taken)

pub reads_join : (us vs : List Value) → live_reads (us ++ vs) ≡ live_reads us ++ live_reads vs
reads_join us vs =
    ap (map (λ o. Read (Live o))) (filter_map-append object_in us vs) ∙ map-append (λ o. Read (Live o)) (filter_map object_in us) (filter_map object_in vs)

-- a fold goes on
pub one_folded : {X Y : Type 0} (xs : List X) (i : ℕ) (d : X) → i < length xs → (f : Y → X → Y) (a y z : Y) → y ≡ fold f a (take i xs) →
    z ≡ f y (get_or xs i d) → z ≡ fold f a (take (i + 1) xs)
one_folded xs i d lt f a y z so_far more = more ∙ ap (λ b. f b (get_or xs i d)) so_far ∙ sym (fold_more f a xs i d lt)
