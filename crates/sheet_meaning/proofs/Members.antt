-- Elements of lists, and lists within lists.
use Rattle.std.proofs.Common.{◌≡◌, refl, sym, ap, subst, Bool, true, false, List, [], ◌∷◌, ◌++◌, inl, inr, ⊎_elim}
use Rattle.std.specs.Prelude.{◌⊎◌, ◌&&◌, ◌||◌, Option, Some, None}
use Rattle.std.specs.List.{filter_map, cons_option, flat_map, list_any}

-- x is one of these
abbrev pub IsIn : {A : Type 0} → A → List A → Type 0
IsIn x [] = ⊥
IsIn x (y ∷ ys) = (x ≡ y) ⊎ IsIn x ys

-- each of the first is one of the second
pub record Within {A : Type 0} (us vs : List A) : Type 0 where
  pub each : (x : A) → IsIn x us → IsIn x vs

module _ {A : Type 0} where
  pub within_itself : (us : List A) → Within us us
  within_itself us = record { each = λ x h. h }

  pub nothing_within : (us : List A) → Within [] us
  nothing_within us = record { each = λ x h. absurd h }

  pub in_front : (x : A) (us vs : List A) → IsIn x us → IsIn x (us ++ vs)
  in_front x [] vs h = absurd h
  in_front x (u ∷ us) vs h = ⊎_elim (λ e. inl e) (λ k. inr (in_front x us vs k)) h

  pub in_back : (x : A) (us vs : List A) → IsIn x vs → IsIn x (us ++ vs)
  in_back x [] vs h = h
  in_back x (u ∷ us) vs h = inr (in_back x us vs h)

  pub in_either : (x : A) (us vs : List A) → IsIn x (us ++ vs) → IsIn x us ⊎ IsIn x vs
  in_either x [] vs h = inr h
  in_either x (u ∷ us) vs h = ⊎_elim (λ e. inl (inl e)) (λ k. ⊎_elim (λ a. inl (inr a)) (λ b. inr b) (in_either x us vs k)) h

  pub within_append : (us us' vs vs' : List A) → Within us us' → Within vs vs' → Within (us ++ vs) (us' ++ vs')
  within_append us us' vs vs' a b = record {
    each = λ x h. ⊎_elim (λ k. in_front x us' vs' (a.each x k)) (λ k. in_back x us' vs' (b.each x k)) (in_either x us vs h);
  }

module _ {B : Type 0} where
  in_option : (o : Option B) (ys : List B) (y : B) → o ≡ Some y → IsIn y (cons_option o ys)
  in_option None ys y e = cc
  in_option (Some b) ys y e = let same : b ≡ y = cc in inl (sym same)

  past_option : (o : Option B) (ys : List B) (y : B) → IsIn y ys → IsIn y (cons_option o ys)
  past_option None ys y h = h
  past_option (Some b) ys y h = inr h

  from_option : (o : Option B) (ys : List B) (y : B) → IsIn y (cons_option o ys) → (o ≡ Some y) ⊎ IsIn y ys
  from_option None ys y h = inr h
  from_option (Some b) ys y h = ⊎_elim (λ e. inl (ap Some (sym e))) (λ k. inr k) h

module _ {A B : Type 0} where
  -- what an element gives is one of what all give
  pub in_flat_map : (g : A → List B) (xs : List A) (x : A) (y : B) → IsIn x xs → IsIn y (g x) → IsIn y (flat_map g xs)
  in_flat_map g [] x y h k = absurd h
  in_flat_map g (z ∷ xs) x y h k =
      ⊎_elim (λ e. in_front y (g z) (flat_map g xs) (subst (λ a. IsIn y (g a)) e k)) (λ j. in_back y (g z) (flat_map g xs) (in_flat_map g xs x y j k)) h

  pub from_flat_map : (g : A → List B) (xs : List A) (y : B) → IsIn y (flat_map g xs) → (x : A) × IsIn x xs × IsIn y (g x)
  from_flat_map g [] y h = absurd h
  from_flat_map g (z ∷ xs) y h =
      ⊎_elim (λ k. (z, inl refl, k)) (λ k. let f = from_flat_map g xs y k in (f.0, inr f.1, f.2)) (in_either y (g z) (flat_map g xs) h)

  pub in_filter_map : (g : A → Option B) (xs : List A) (x : A) (y : B) → IsIn x xs → g x ≡ Some y → IsIn y (filter_map g xs)
  in_filter_map g [] x y h k = absurd h
  in_filter_map g (z ∷ xs) x y h k =
      ⊎_elim
      (λ e. in_option (g z) (filter_map g xs) y (subst (λ a. g a ≡ Some y) e k))
      (λ j. past_option (g z) (filter_map g xs) y (in_filter_map g xs x y j k))
      h

  pub from_filter_map : (g : A → Option B) (xs : List A) (y : B) → IsIn y (filter_map g xs) → (x : A) × IsIn x xs × (g x ≡ Some y)
  from_filter_map g [] y h = absurd h
  from_filter_map g (z ∷ xs) y h =
      ⊎_elim (λ e. (z, inl refl, e)) (λ k. let f = from_filter_map g xs y k in (f.0, inr f.1, f.2)) (from_option (g z) (filter_map g xs) y h)

-- where one list is within another, so is what is found in it
pub within_filter_map : {A B : Type 0} (g : A → Option B) (us vs : List A) → Within us vs → Within (filter_map g us) (filter_map g vs)
within_filter_map g us vs h = record {
  each = λ y k. let f = from_filter_map g us y k in in_filter_map g vs f.0 y (h.each f.0 f.1) f.2;
}

-- a test that an element passes
pub any_in : {A : Type 0} (p : A → Bool) (xs : List A) (x : A) → IsIn x xs → p x ≡ true → list_any p xs ≡ true
any_in p [] x h k = absurd h
any_in p (y ∷ xs) x h k =
    elim (p y) as (λ b. p y ≡ b → (b || list_any p xs) ≡ true) [
      | true ↦ λ e. refl
      | false ↦ λ e. ⊎_elim (λ same. let q : p y ≡ true = subst (λ a. p a ≡ true) same k in cc) (λ j. any_in p xs x j k) h
    ] refl

pub from_any : {A : Type 0} (p : A → Bool) (xs : List A) → list_any p xs ≡ true → (x : A) × IsIn x xs × (p x ≡ true)
from_any p [] h = cc
from_any {A} p (y ∷ xs) h =
    elim (p y) as (λ b. p y ≡ b → (b || list_any p xs) ≡ true → (x : A) × IsIn x (y ∷ xs) × (p x ≡ true)) [
      | true ↦ λ e k. (y, inl refl, e)
      | false ↦ λ e k. let f = from_any p xs k in (f.0, inr f.1, f.2)
    ] refl h

pub both_true : (a b : Bool) → (a && b) ≡ true → (a ≡ true) × (b ≡ true)
both_true true b e = (refl, e)
both_true false b e = cc
