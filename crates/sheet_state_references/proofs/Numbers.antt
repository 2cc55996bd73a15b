-- Numbers among others, and what stands under an object by some of the rows.
use Rattle.std.proofs.Common.{◌≡◌, refl, sym, ap, ◌∙◌, ℕ, ◌<◌, ◌≤◌, zero, suc, Bool, true, false, cond, List, [], ◌∷◌, length, take, get_or, arith, eq-eqb, inl}
use Rattle.std.proofs.Common.{inr}
use Rattle.std.specs.Prelude.{◌==◌, ◌&&◌, ◌||◌}
use Rattle.std.specs.List.{list_any}
use Rattle.std.specs.Ordering.{is_eq, nat_cmp}
use Rattle.std.specs.Cmp.{nat_cmp_is}
use Rattle.std.specs.declared.cmp.Ordering.TheVariants.{Less, Equal, Greater}
use Rattle.std.proofs.lemmas.Bool.{eqb-true, cases_lt}
use Rattle.sheet_values.specs.Sets.{contains}
use Rattle.sheet_values.specs.Order.{value_cmp}
use Rattle.sheet_values.specs.declared.value.Value.{Value}
use Rattle.sheet_values.specs.declared.value.Value.TheVariants.{Truth, Number, Text, Object}
use Rattle.sheet_state_rows.specs.declared.row.SetRow.{SetRow}
use Rattle.sheet_state_references.specs.Below.{holds_under}
use Rattle.sheet_state_references.specs.Order.{holds_reference}
use Rattle.sheet_state_references.specs.declared.references.Reference.{Reference}

pub other : (a b : ℕ) → (a ≡ b → ⊥) → (a == b) ≡ false
other a b ne = elim (a == b) as (λ t. (a == b) ≡ t → t ≡ false) [ true ↦ λ e. absurd (ne (eqb-true a b e)) | false ↦ λ e. refl ] refl

pub ties : (a b : ℕ) → is_eq (nat_cmp a b) ≡ (a == b)
ties a b =
    elim (cases_lt a b) [
      | inl lt ↦ ap is_eq (sym (nat_cmp_is a b Less lt)) ∙ sym (other a b (λ e. omega arith))
      | inr ge ↦ elim (cases_lt b a) [
        | inl gt ↦ ap is_eq (sym (nat_cmp_is a b Greater gt)) ∙ sym (other a b (λ e. omega arith))
        | inr le ↦ let same : a ≡ b = omega arith in ap is_eq (sym (nat_cmp_is a b Equal same)) ∙ sym (eq-eqb a b same)
      ]
    ]

pub ties_turned : (a b : ℕ) → is_eq (nat_cmp a b) ≡ is_eq (nat_cmp b a)
ties_turned a b = ties a b ∙ turned (a == b) refl ∙ sym (ties b a)
  where
    turned : (t : Bool) → (a == b) ≡ t → t ≡ (b == a)
    turned true e = sym (eq-eqb b a (sym (eqb-true a b e)))
    turned false e = sym (other b a (λ s. let t : (a == b) ≡ true = eq-eqb a b (sym s) in cc))

pub object_ties : (a b : ℕ) → is_eq (value_cmp (Object a) (Object b)) ≡ is_eq (nat_cmp a b)
object_ties a b = refl

-- with one more
pub has_more : (a b : Bool) (t : Bool) → cond t true (a || b) ≡ (a || (b || t))
has_more true true true = refl
has_more true true false = refl
has_more true false true = refl
has_more true false false = refl
has_more false true true = refl
has_more false true false = refl
has_more false false true = refl
has_more false false false = refl

pub same_again : (a b t : Bool) → t ≡ false → (a || b) ≡ (a || (b || t))
same_again true b t e = refl
same_again false true t e = refl
same_again false false t e = sym e

-- of values that are no objects none is an object
pub no_object : (n : ℕ) (v : Value) → ((m : ℕ) → v ≡ Object m → ⊥) → is_eq (value_cmp (Object n) v) ≡ false
no_object n (Truth b) h = refl
no_object n (Number b) h = refl
no_object n (Text b) h = refl
no_object n (Object m) h = absurd (h m refl)

-- where all that pass stand from a place on, none passes before it
pub none_before : {A : Type 0} (p : A → Bool) (xs : List A) (d : A) (i : ℕ) → ((k : ℕ) → k < i → k < length xs → p (get_or xs k d) ≡ false) →
    list_any p (take i xs) ≡ false
none_before {A} p xs d zero h = refl
none_before {A} p [] d (suc i) h = refl
none_before {A} p (x ∷ xs) d (suc i) h =
    ap (λ b. b || list_any p (take i xs)) (h 0 (omega arith) (omega arith)) ∙ none_before p xs d i (λ k lt fits. h (suc k) (omega arith) (omega arith))

-- and where all that pass stand before a place, none passes behind it
pub none_behind : {A : Type 0} (p : A → Bool) (xs : List A) (d : A) (i : ℕ) → ((k : ℕ) → i ≤ k → k < length xs → p (get_or xs k d) ≡ false) →
    list_any p (take i xs) ≡ list_any p xs
none_behind {A} p [] d zero h = refl
none_behind {A} p [] d (suc i) h = refl
none_behind {A} p (x ∷ xs) d zero h =
    sym (ap (λ b. b || list_any p xs) (h 0 (omega arith) (omega arith)) ∙ sym (none_behind p xs d 0 (λ k le lt. h (suc k) (omega arith) (omega arith))))
none_behind {A} p (x ∷ xs) d (suc i) h = ap (λ b. p x || b) (none_behind p xs d i (λ k le lt. h (suc k) (omega arith) (omega arith)))

-- a row of another object holds nothing under this one
pub not_under : (p n : ℕ) (r : SetRow) → (r.object ≡ p → ⊥) → holds_under p n r ≡ false
not_under p n r ne = ap (λ b. r.live && (b && contains (Object n) r.set)) (other r.object p ne) ∙ never r.live
  where
    never : (b : Bool) → (b && false) ≡ false
    never true = refl
    never false = refl

-- a row of another object than the reference's holds it not
pub not_held : (r : Reference) (row : SetRow) → (row.object ≡ r.object → ⊥) → holds_reference r row ≡ false
not_held r row ne = ap (λ b. row.live && (b && (row.column == r.column && contains (Object r.to) row.set))) (other row.object r.object ne) ∙ never row.live
  where
    never : (b : Bool) → (b && false) ≡ false
    never true = refl
    never false = refl
