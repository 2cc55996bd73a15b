-- Places that come one after another.
use Rattle.std.proofs.Common.{◌≡◌, refl, sym, ap, ◌∙◌, subst, ℕ, ◌+◌, ◌<◌, ◌≤◌, Bool, true, false, cond, List, take, length, get_or, arith, eq-eqb, ◌⊎◌, inl}
use Rattle.std.proofs.Common.{inr}
use Rattle.std.specs.Prelude.{◌||◌}
use Rattle.std.specs.declared.cmp.Ordering.{Ordering}
use Rattle.std.specs.Ordering.{is_eq, nat_cmp}
use Rattle.std.proofs.lemmas.Bool.{eqb-true}
use Rattle.std.proofs.lemmas.List.{take_all}
use Rattle.std.proofs.lemmas.List.Folds.{list_any_more}
use Rattle.sheet_values.specs.Sorted.{contains as holds}
use Rattle.sheet_values.specs.Order.{value_cmp}
use Rattle.sheet_values.specs.declared.value.Value.{Value}
use Rattle.sheet_values.specs.declared.value.Value.TheVariants.{Object}
use Rattle.sheet_state_references.specs.Below.{has}
use Rattle.sheet_state_references.proofs.Inserted.{value_is}
use Rattle.sheet_state_references.proofs.Numbers.{ties}
use Rattle.sheet_state.specs.Places.{Fits, Adds, OfAny}

-- none came
pub none_added : (W : ℕ → Type 0) (n : ℕ) (xs : List ℕ) → ((k : ℕ) → W k → ⊥) → Adds W n xs xs
none_added W n xs none = record { found = λ k w. absurd (none k w); kept = λ k h. h; fits = λ f. f }

-- one came
pub one_added : (W : ℕ → Type 0) (n m : ℕ) (old new : List ℕ) → ((k : ℕ) → has k new ≡ cond (is_eq (nat_cmp m k)) true (has k old)) → m < n →
    ((k : ℕ) → W k → m ≡ k) → Adds W n old new
one_added W n m old new is lt only = record {
  found = λ k w. is k ∙ ap (λ b. cond b true (has k old)) (ties m k ∙ eq-eqb m k (only k w));
  kept = λ k h. is k ∙ ap (cond (is_eq (nat_cmp m k)) true) h ∙ always (is_eq (nat_cmp m k));
  fits = λ f k h. at f k (is_eq (nat_cmp m k)) refl (sym (is k) ∙ h);
}
  where
    always : (b : Bool) → cond b true true ≡ true
    always true = refl
    always false = refl

    at : Fits n old → (k : ℕ) (b : Bool) → is_eq (nat_cmp m k) ≡ b → cond b true (has k old) ≡ true → k < n
    at f k true e h = let same : m ≡ k = eqb-true m k (sym (ties m k) ∙ e) in omega arith
    at f k false e h = f k h

-- some came, then others
pub both_added : (V W : ℕ → Type 0) (n : ℕ) (a b c : List ℕ) → Adds V n a b → Adds W n b c → Adds (λ k. V k ⊎ W k) n a c
both_added V W n a b c v w = record {
  found = λ k h. at k h;
  kept = λ k h. w.kept k (v.kept k h);
  fits = λ f. w.fits (v.fits f);
}
  where
    at : (k : ℕ) → V k ⊎ W k → has k c ≡ true
    at k (inl h) = w.kept k (v.found k h)
    at k (inr h) = w.found k h

-- fewer were wanted
pub fewer : (V W : ℕ → Type 0) (n : ℕ) (a b : List ℕ) → ((k : ℕ) → W k → V k) → Adds V n a b → Adds W n a b
fewer V W n a b less v = record { found = λ k w. v.found k (less k w); kept = v.kept; fits = v.fits }

-- wanted for one of some
abbrev pub Among : {A : Type 0} → (A → A → Ordering) → (A → ℕ → Type 0) → List A → ℕ → Type 0
Among {A} cmp W xs k = (x : A) × (holds cmp x xs ≡ true) × W x k

-- those for one more
pub each_more : {A : Type 0} (cmp : A → A → Ordering) (same : (x y : A) → is_eq (cmp x y) ≡ true → x ≡ y) (W : A → ℕ →
    Type 0) (n : ℕ) (a b c : List ℕ) (xs : List A) (i : ℕ) (d : A) → i < length xs → Adds (Among cmp W (take i xs)) n a b → Adds (W (get_or xs i d)) n b c →
    Adds (Among cmp W (take (i + 1) xs)) n a c
each_more {A} cmp same W n a b c xs i d lt v w =
    fewer (λ k. Among cmp W (take i xs) k ⊎ W (get_or xs i d) k) (Among cmp W (take (i + 1) xs)) n a c
    (λ k h. at k h.0 h.2 (one_of (holds cmp h.0 (take i xs)) (is_eq (cmp h.0 (get_or xs i d))) (sym (list_any_more (λ y. is_eq (cmp h.0 y)) xs i d lt)
    ∙ h.1)))
    (both_added (Among cmp W (take i xs)) (W (get_or xs i d)) n a b c v w)
  where
    one_of : (p q : Bool) → (p || q) ≡ true → (p ≡ true) ⊎ (q ≡ true)
    one_of true q e = inl refl
    one_of false q e = inr e

    at : (k : ℕ) (x : A) → W x k → (holds cmp x (take i xs) ≡ true) ⊎ (is_eq (cmp x (get_or xs i d)) ≡ true) → Among cmp W (take i xs) k ⊎ W (get_or xs i d) k
    at k x wanted (inl h) = inl (x, h, wanted)
    at k x wanted (inr h) = inr (subst (λ y. W y k) (same x (get_or xs i d) h) wanted)

pub each_none : {A : Type 0} (cmp : A → A → Ordering) (W : A → ℕ → Type 0) (n : ℕ) (a : List ℕ) (xs : List A) → Adds (Among cmp W (take 0 xs)) n a a
each_none cmp W n a xs = none_added (Among cmp W (take 0 xs)) n a (λ k h. let e = h.1 in cc)

pub each_all : {A : Type 0} (cmp : A → A → Ordering) (W : A → ℕ → Type 0) (n : ℕ) (a b : List ℕ) (xs : List A) (i : ℕ) → length xs ≤ i →
    Adds (Among cmp W (take i xs)) n a b → Adds (Among cmp W xs) n a b
each_all cmp W n a b xs i long v = subst (λ l. Adds (Among cmp W l) n a b) (take_all i xs long) v

-- what is wanted for a value that is an object
abbrev pub OfObject : (ℕ → ℕ → Type 0) → Value → ℕ → Type 0
OfObject W v k = (n : ℕ) × (v ≡ Object n) × W n k

pub for_object : (W : ℕ → ℕ → Type 0) (n m : ℕ) (a b : List ℕ) (v : Value) → v ≡ Object m → Adds (W m) n a b → Adds (OfObject W v) n a b
for_object W n m a b v is w = fewer (W m) (OfObject W v) n a b (λ k h. let number : h.0 ≡ m = same h.0 (sym h.1 ∙ is) in subst (λ j. W j k) number h.2) w
  where
    same : (j : ℕ) → Object j ≡ Object m → j ≡ m
    same j e = cc

pub for_any : (W : ℕ → ℕ → Type 0) (n : ℕ) (a b : List ℕ) (d : List Value) → Adds (Among value_cmp (OfObject W) d) n a b → Adds (OfAny d W) n a b
for_any W n a b d v = fewer (Among value_cmp (OfObject W) d) (OfAny d W) n a b (λ k h. (Object h.0, h.1, (h.0, refl, h.2))) v

-- one value more, and what came for it
pub value_more : (W : ℕ → ℕ → Type 0) (n : ℕ) (a b c : List ℕ) (vs : List Value) (i : ℕ) (d : Value) → i < length vs →
    Adds (Among value_cmp (OfObject W) (take i vs)) n a b → Adds (OfObject W (get_or vs i d)) n b c →
    Adds (Among value_cmp (OfObject W) (take (i + 1) vs)) n a c
value_more W n a b c vs i d lt v w = each_more value_cmp value_is (OfObject W) n a b c vs i d lt v w
