-- The search for all below some objects, from what waits and what was found so far.
use Rattle.std.proofs.Common.{◌≡◌, refl, sym, ap, ◌∙◌, ℕ, ◌-◌, ◌<◌, ◌^◌, suc, Bool, true, false, List, [], ◌∷◌, arith, eq-eqb, ◌⊎◌, inl, inr}
use Rattle.std.specs.Prelude.{◌||◌}
use Rattle.std.specs.List.{All}
use Rattle.std.specs.declared.cmp.Ordering.TheVariants.{Less, Equal, Greater}
use Rattle.std.specs.Ordering.{is_eq, nat_cmp}
use Rattle.std.specs.Cmp.{nat_cmp_is}
use Rattle.std.proofs.lemmas.Bool.{eqb-true, cases_lt}
use Rattle.sheet_values.specs.Order.{value_cmp}
use Rattle.sheet_values.specs.Sets.{contains, insert}
use Rattle.sheet_values.specs.declared.value.Value.{Value}
use Rattle.sheet_values.specs.declared.value.Value.TheVariants.{Object}
use Rattle.sheet_state_rows.specs.declared.row.SetRow.{SetRow}
use Rattle.sheet_state_references.specs.Below.{has, stands_under, Descends, GoesDown, IsObjectWith, AreFamilies}
use Rattle.sheet_state_references.proofs.Inserted.{value_is, has_inserted}
use Rattle.sheet_state_references.proofs.Numbers.{ties}

-- what was found goes down to what was found or waits, and all of it belongs to the families
pub record Searched (rows : List SetRow) (p : ℕ → Bool) (waiting : List ℕ) (found : List Value) : Type 0 where
  pub first : (n : ℕ) → p n ≡ true → (has n waiting || contains (Object n) found) ≡ true
  pub down : (m n : ℕ) → contains (Object m) found ≡ true → stands_under rows m n ≡ true → (has n waiting || contains (Object n) found) ≡ true
  pub waits : (q : ℕ → Bool) → ((n : ℕ) → p n ≡ true → q n ≡ true) → GoesDown rows q → (n : ℕ) → has n waiting ≡ true → q n ≡ true
  pub least : (q : ℕ → Bool) → ((n : ℕ) → p n ≡ true → q n ≡ true) → GoesDown rows q → (v : Value) → contains v found ≡ true → IsObjectWith q v

pub one_of : (a b : Bool) → (a || b) ≡ true → (a ≡ true) ⊎ (b ≡ true)
one_of true b e = inl refl
one_of false b e = inr e

pub left : (a b : Bool) → a ≡ true → (a || b) ≡ true
left true b e = refl
left false b e = cc

pub right : (a b : Bool) → b ≡ true → (a || b) ≡ true
right true b e = refl
right false b e = e

same_number : (n m : ℕ) → is_eq (nat_cmp n m) ≡ true → n ≡ m
same_number n m e = eqb-true n m (sym (ties n m) ∙ e)

itself : (n : ℕ) → is_eq (nat_cmp n n) ≡ true
itself n = ties n n ∙ eq-eqb n n refl

-- what was waiting or found still is, after the first that waited was found
shift : (a b c d : Bool) → ((a || b) || c) ≡ true → ((b || d) || (a || c)) ≡ true
shift true true c d e = refl
shift true false c true e = refl
shift true false c false e = refl
shift false true c d e = refl
shift false false c true e = refl
shift false false c false e = e

pub starts : (rows : List SetRow) (waiting : List ℕ) → Searched rows (λ n. has n waiting) waiting []
starts rows waiting = record {
  first = λ n e. left (has n waiting) false e;
  down = λ m n h u. cc;
  waits = λ q e down n h. e n h;
  least = λ q e down v h. cc;
}

module _ (rows : List SetRow) (p : ℕ → Bool) (m : ℕ) (rest : List ℕ) (found : List Value) (s : Searched rows p (m ∷ rest) found) (next : List ℕ) (is : (n : ℕ) →
    has n next ≡ (has n rest || stands_under rows m n)) where
  abbrev more : List Value
  more = insert (Object m) found

  still : (n : ℕ) → (has n (m ∷ rest) || contains (Object n) found) ≡ true → (has n next || contains (Object n) more) ≡ true
  still n e =
      ap (λ b. b || contains (Object n) more) (is n)
      ∙ ap (λ b. (has n rest || stands_under rows m n) || b) (has_inserted (Object n) (Object m) found)
      ∙ shift (is_eq (nat_cmp n m)) (has n rest) (contains (Object n) found) (stands_under rows m n) e

  below : (n : ℕ) → stands_under rows m n ≡ true → (has n next || contains (Object n) more) ≡ true
  below n u = left (has n next) (contains (Object n) more) (is n ∙ right (has n rest) (stands_under rows m n) u)

  pub turn : Searched rows p next more
  turn = record {
    first = λ n e. still n (s.first n e);
    down = λ k n h u. goes k n u (one_of (is_eq (nat_cmp k m)) (contains (Object k) found) (sym (has_inserted (Object k) (Object m) found) ∙ h));
    waits = λ q e down n h. wait q e down n (one_of (has n rest) (stands_under rows m n) (sym (is n) ∙ h));
    least = λ q e down v h. found_one q e down v (one_of (is_eq (value_cmp v (Object m))) (contains v found) (sym (has_inserted v (Object m) found) ∙ h));
  }
    where
      goes : (k n : ℕ) → stands_under rows k n ≡ true → (is_eq (nat_cmp k m) ≡ true) ⊎ (contains (Object k) found ≡ true) →
          (has n next || contains (Object n) more) ≡ true
      goes k n u (inl h) = below n (ap (λ j. stands_under rows j n) (sym (same_number k m h)) ∙ u)
      goes k n u (inr h) = still n (s.down k n h u)

      mine : (q : ℕ → Bool) → ((n : ℕ) → p n ≡ true → q n ≡ true) → GoesDown rows q → q m ≡ true
      mine q e down = s.waits q e down m (left (is_eq (nat_cmp m m)) (has m rest) (itself m))

      wait : (q : ℕ → Bool) → ((n : ℕ) → p n ≡ true → q n ≡ true) → GoesDown rows q → (n : ℕ) → (has n rest ≡ true) ⊎ (stands_under rows m n ≡ true) → q n ≡ true
      wait q e down n (inl h) = s.waits q e down n (right (is_eq (nat_cmp n m)) (has n rest) h)
      wait q e down n (inr h) = down m n (mine q e down) h

      found_one : (q : ℕ → Bool) → ((n : ℕ) → p n ≡ true → q n ≡ true) → GoesDown rows q → (v : Value) → (is_eq (value_cmp v (Object m)) ≡ true) ⊎ (contains v found ≡ true) →
          IsObjectWith q v
      found_one q e down v (inl h) = (m, value_is v (Object m) h, mine q e down)
      found_one q e down v (inr h) = s.least q e down v h

pub ends : (rows : List SetRow) (p : ℕ → Bool) (waiting : List ℕ) (found : List Value) → waiting ≡ [] → Searched rows p waiting found →
    AreFamilies rows p found
ends rows p waiting found none s = record {
  first = λ n e. ap (λ ns. has n ns || contains (Object n) found) (sym none) ∙ s.first n e;
  down = λ m n h u. ap (λ ns. has n ns || contains (Object n) found) (sym none) ∙ s.down m n h u;
  least = s.least;
}

-- how far the least of what waits is from the end of all numbers
abbrev pub remaining : List ℕ → ℕ
remaining [] = 0
remaining (n ∷ ns) = 2 ^ 64 - n

pub nat_less : (a b : ℕ) → nat_cmp a b ≡ Less → a < b
nat_less a b e =
    elim (cases_lt a b) [
      | inl lt ↦ lt
      | inr ge ↦ elim (cases_lt b a) [
        | inl gt ↦ let h : nat_cmp a b ≡ Greater = sym (nat_cmp_is a b Greater gt) in let clash : Less ≡ Greater = sym e ∙ h in cc
        | inr le ↦ let same : a ≡ b = omega arith in let h : nat_cmp a b ≡ Equal = sym (nat_cmp_is a b Equal same) in let clash : Less ≡ Equal = sym e ∙ h in cc
      ]
    ]

all_greater : (m : ℕ) (ns : List ℕ) → All (λ n. nat_cmp m n ≡ Less) ns → (n : ℕ) → has n ns ≡ true → m < n
all_greater m [] all n h = cc
all_greater m (k ∷ ns) all n h =
    elim (one_of (is_eq (nat_cmp n k)) (has n ns) h) [
      | inl e ↦ let same = same_number n k e in let less = nat_less m k (all 0 m (omega arith)) in omega arith
      | inr e ↦ all_greater m ns (λ j d lt. all (suc j) d (omega arith)) n e
    ]

pub falls : (rows : List SetRow) (m : ℕ) (rest next : List ℕ) → m < 2 ^ 64 → Descends rows → All (λ n. nat_cmp m n ≡ Less) rest →
    ((n : ℕ) → has n next ≡ (has n rest || stands_under rows m n)) → remaining next < 2 ^ 64 - m
falls rows m rest [] fits lower above is = omega arith
falls rows m rest (k ∷ ks) fits lower above is =
    let greater = at (one_of (has k rest) (stands_under rows m k) (sym (is k) ∙ left (is_eq (nat_cmp k k)) (has k ks) (itself k))) in omega arith
  where
    at : (has k rest ≡ true) ⊎ (stands_under rows m k ≡ true) → m < k
    at (inl h) = all_greater m rest above k h
    at (inr h) = lower m k h
