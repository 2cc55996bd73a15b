-- The one value of a kind among some.
use Rattle.std.proofs.Common.{◌≡◌, sym, ap, ◌∙◌, ℕ, ◌+◌, true, false, List, ◌∷◌, ◌++◌, drop, Option, Some, None}
use Rattle.std.specs.Prelude.{slice_get, is_some, Err}
use Rattle.std.specs.List.{filter_map, cons_option}
use Rattle.std.specs.Option.{option_to_list}
use Rattle.sheet_values.specs.declared.value.Value.{Value}
use Rattle.sheet_values.specs.declared.value.NotOne.TheVariants.{Many}
use Rattle.sheet_columns.specs.declared.fault.Fault.TheVariants as fault
use Rattle.sheet_columns.specs.declared.fault.Place.{Place}
use Rattle.sheet_meaning.specs.Run.{the_one}
use Rattle.sheet_eval_sets.proofs.Cutting.{cut_at}

module _ {A : Type 0} (f : Value → Option A) (s : List Value) (k : ℕ) (v : Value) (at : slice_get s k ≡ Some v) where
  picked_one : (o : Option A) → f v ≡ o → filter_map f (drop k s) ≡ cons_option o (filter_map f (drop (k + 1) s))
  picked_one o e = ap (filter_map f) (cut_at s k v at) ∙ ap (λ q. cons_option q (filter_map f (drop (k + 1) s))) e

  module _ (found : Option A) (so_far : filter_map f s ≡ option_to_list found ++ filter_map f (drop k s)) where
    pub pick_none : f v ≡ None → filter_map f s ≡ option_to_list found ++ filter_map f (drop (k + 1) s)
    pick_none e = so_far ∙ ap (λ l. option_to_list found ++ l) (picked_one None e)

    by_found : (o : Option A) → filter_map f s ≡ option_to_list o ++ filter_map f (drop k s) → is_some o ≡ false → (a : A) → f v ≡ Some a
        → filter_map f s ≡ a ∷ filter_map f (drop (k + 1) s)
    by_found None h n a e = h ∙ picked_one (Some a) e
    by_found (Some b) h n a e = cc

    pub pick_first : is_some found ≡ false → (a : A) → f v ≡ Some a → filter_map f s ≡ a ∷ filter_map f (drop (k + 1) s)
    pick_first n a e = by_found found so_far n a e

    by_second : (p : Place) (o : Option A) → filter_map f s ≡ option_to_list o ++ filter_map f (drop k s) → is_some o ≡ true → (a : A) → f v ≡ Some a
        → Err (fault.NotOne Many p) ≡ the_one p (filter_map f s)
    by_second p None h n a e = cc
    by_second p (Some b) h n a e = sym (ap (the_one p) (h ∙ ap (λ l. b ∷ l) (picked_one (Some a) e)))

    pub pick_second : (p : Place) → is_some found ≡ true → (a : A) → f v ≡ Some a → Err (fault.NotOne Many p) ≡ the_one p (filter_map f s)
    pick_second p n a e = by_second p found so_far n a e
