-- A row that is found by halving is the first that passes.
use Rattle.std.proofs.Common.{◌≡◌, refl, sym, ap, ◌∙◌, subst, ℕ, ◌+◌, ◌<◌, ◌≤◌, zero, suc, Bool, true, false, cond, List, [], ◌∷◌, length, get_or, arith, Some}
use Rattle.std.proofs.Common.{None, eq-eqb, Err, ◌⊎◌, inl, inr}
use Rattle.std.specs.Prelude.{position, ◌==◌, ◌&&◌, if◌then◌else◌}
use Rattle.std.specs.List.{position_from, AllByRecursion}
use Rattle.std.specs.List.Sorted.{IsBinarySearchResult, IsNonDecreasingBy, IsPartitionPoint}
use Rattle.std.specs.declared.cmp.Ordering.{Ordering}
use Rattle.std.specs.declared.cmp.Ordering.TheVariants.{Less, Equal, Greater}
use Rattle.std.specs.Ordering.{is_eq, nat_cmp, ordering_then, ordering_index}
use Rattle.std.specs.Cmp.{nat_cmp_is}
use Rattle.std.specs.FinMap.{nat_cmp-IsAntisymmetric}
use Rattle.std.proofs.lemmas.Bool.{eqb-true, cases_lt}
use Rattle.std.proofs.lemmas.Iterator.Adapters.{position_from-zero}
use Rattle.sheet_values.specs.Sorted.{IsBelow, IsRising}
use Rattle.sheet_state_rows.specs.declared.row.ObjectRow.{ObjectRow}
use Rattle.sheet_state_rows.specs.declared.row.SetRow.{SetRow}
use Rattle.sheet_state.specs.Rows.{object_cmp, row_cmp, is_object, is_set}
use Rattle.sheet_state_references.proofs.Searched.{nat_less}

-- how elements compare with what is looked for goes with their order
pub record Follows {A : Type 0} (cmp : A → A → Ordering) (ord : A → Ordering) : Type 0 where
  pub falls : (x y : A) → cmp x y ≡ Less → ord y ≡ Equal → ord x ≡ Less
  pub rises : (x y : A) → cmp x y ≡ Less → ord x ≡ Equal → ord y ≡ Greater
  pub grows : (x y : A) → cmp x y ≡ Less → ordering_index (ord x) ≤ ordering_index (ord y)

module _ {A : Type 0} (cmp : A → A → Ordering) (ord : A → Ordering) (live : A → Bool) (follows : Follows cmp ord) where
  abbrev test : A → Bool
  test x = live x && is_eq (ord x)

  no : (x : A) → (ord x ≡ Equal → ⊥) → test x ≡ false
  no x ne = elim (is_eq (ord x)) as (λ b. is_eq (ord x) ≡ b → (live x && b) ≡ false) [ true ↦ λ e. absurd (ne (tie (ord x) e)) | false ↦ λ e. never (live x) ]
      refl
    where
      tie : (r : Ordering) → is_eq r ≡ true → r ≡ Equal
      tie Less e = cc
      tie Equal e = refl
      tie Greater e = cc

      never : (b : Bool) → (b && false) ≡ false
      never true = refl
      never false = refl

  none_left : (i : ℕ) (xs : List A) → AllByRecursion (λ x. test x ≡ false) xs → position_from test i xs ≡ None
  none_left i [] h = refl
  none_left i (x ∷ xs) h = ap (λ b. cond b (Some i) (position_from test (i + 1) xs)) h.0 ∙ none_left (i + 1) xs h.1

  greater_all : (x : A) (xs : List A) → ord x ≡ Equal → IsBelow cmp x xs → AllByRecursion (λ y. test y ≡ false) xs
  greater_all x [] e b = tt
  greater_all x (y ∷ ys) e b = (no y (λ h. let up = follows.rises x y b.0 e in let clash : Greater ≡ Equal = sym up ∙ h in cc), greater_all x ys e b.1)

  below_at : (x : A) (xs : List A) (k : ℕ) (d : A) → IsBelow cmp x xs → k < length xs → cmp x (get_or xs k d) ≡ Less
  below_at x [] k d b lt = absurd (omega arith)
  below_at x (y ∷ ys) zero d b lt = b.0
  below_at x (y ∷ ys) (suc k) d b lt = below_at x ys k d b.1 (omega arith)

  found_from : (i : ℕ) (xs : List A) (k : ℕ) (d : A) → IsRising cmp xs → k < length xs → ord (get_or xs k d) ≡ Equal →
      position_from test i xs ≡ (if live (get_or xs k d) then Some (i + k) else None)
  found_from i [] k d r lt e = absurd (omega arith)
  found_from i (x ∷ xs) zero d r lt e =
      ap (λ o. cond (live x && is_eq o) (Some i) (position_from test (i + 1) xs)) e
      ∙ ap (λ o. cond (live x && true) (Some i) o) (none_left (i + 1) xs (greater_all x xs e r.0))
      ∙ at (live x)
    where
      at : (b : Bool) → cond (b && true) (Some i) None ≡ (if b then Some (i + 0) else None)
      at true = ap Some (omega arith)
      at false = refl
  found_from i (x ∷ xs) (suc k) d r lt e =
      let less = below_at x xs k d r.0 (omega arith) in
      let lower = follows.falls x (get_or xs k d) less e in
      ap (λ b. cond b (Some i) (position_from test (i + 1) xs)) (no x (λ h. let clash : Less ≡ Equal = sym lower ∙ h in cc))
      ∙ found_from (i + 1) xs k d r.1 (omega arith) e
      ∙ ap (λ n. if live (get_or xs k d) then Some n else None) (let s : i + 1 + k ≡ i + suc k = omega arith in s)

  pub found : (xs : List A) (k : ℕ) (d : A) → IsRising cmp xs → k < length xs → ord (get_or xs k d) ≡ Equal →
      position test xs ≡ (if live (get_or xs k d) then Some k else None)
  found xs k d r lt e =
      position_from-zero test xs ∙ found_from 0 xs k d r lt e ∙ ap (λ n. if live (get_or xs k d) then Some n else None) (let z : 0 + k ≡ k = omega arith in z)

  rising_at : (xs : List A) (i j : ℕ) (d : A) → IsRising cmp xs → i < j → j < length xs → cmp (get_or xs i d) (get_or xs j d) ≡ Less
  rising_at [] i j d r lt h = absurd (omega arith)
  rising_at (x ∷ xs) i zero d r lt h = absurd (omega arith)
  rising_at (x ∷ xs) zero (suc j) d r lt h = below_at x xs j d r.0 (omega arith)
  rising_at (x ∷ xs) (suc i) (suc j) d r lt h = rising_at xs i j d r.1 (omega arith) (omega arith)

  pub in_order : (xs : List A) → IsRising cmp xs → IsNonDecreasingBy (λ y. ordering_index (ord y)) xs
  in_order xs r i j d le lt = at i j d le lt (cases_lt i j)
    where
      at : (a b : ℕ) (e : A) → a ≤ b → b < length xs → (a < b) ⊎ (b ≤ a) → ordering_index (ord (get_or xs a e)) ≤ ordering_index (ord (get_or xs b e))
      at a b e le lt (inl less) = follows.grows (get_or xs a e) (get_or xs b e) (rising_at xs a b e r less lt)
      at a b e le lt (inr ge) = let same : a ≡ b = omega arith in
          subst (λ n. ordering_index (ord (get_or xs a e)) ≤ ordering_index (ord (get_or xs n e))) same (omega arith)

  none_equal : (xs : List A) (i : ℕ) → ((j : ℕ) (d : A) → j < length xs → ord (get_or xs j d) ≡ Equal → ⊥) → AllByRecursion (λ x. test x ≡ false) xs
  none_equal [] i f = tt
  none_equal (x ∷ xs) i f = (no x (λ e. f 0 x (omega arith) e), none_equal xs i (λ j d lt e. f (suc j) d (omega arith) e))

  pub missing : (xs : List A) (i : ℕ) → IsRising cmp xs → IsBinarySearchResult ord xs (Err i) → position test xs ≡ None
  missing xs i r result =
      let parts = result (in_order xs r) in
      position_from-zero test xs ∙ none_left 0 xs (none_equal xs i (λ j d lt e. at j d lt e parts (cases_lt j i)))
    where
      at : (j : ℕ) (d : A) → j < length xs → ord (get_or xs j d) ≡ Equal → IsPartitionPoint (λ y. ord y ≡ Less) (λ y. ord y ≡ Greater) xs i →
          (j < i) ⊎ (i ≤ j) → ⊥
      at j d lt e p (inl less) = let h = p.0 j d (omega arith) less in let clash : Less ≡ Equal = sym h ∙ e in cc
      at j d lt e p (inr ge) = let h = p.1 j d ge lt in let clash : Greater ≡ Equal = sym h ∙ e in cc

-- numbers against a number
less_cmp : (a b : ℕ) → a < b → nat_cmp a b ≡ Less
less_cmp a b lt = sym (nat_cmp_is a b Less lt)

equal_numbers : (a b : ℕ) → nat_cmp a b ≡ Equal → a ≡ b
equal_numbers a b e = nat_cmp-IsAntisymmetric a b e

index_less : (r : Ordering) → ordering_index Less ≤ ordering_index r
index_less Less = omega arith
index_less Equal = omega arith
index_less Greater = omega arith

index_greater : (r : Ordering) → ordering_index r ≤ ordering_index Greater
index_greater Less = omega arith
index_greater Equal = omega arith
index_greater Greater = omega arith

-- of two numbers the lower compares no higher
grows_number : (a b n : ℕ) → a < b → (nat_cmp a n ≡ Less) ⊎ (nat_cmp b n ≡ Greater)
grows_number a b n lt =
    elim (cases_lt a n) [
      | inl less ↦ inl (less_cmp a n less)
      | inr ge ↦ inr (sym (nat_cmp_is b n Greater (omega arith)))
    ]

pub objects_follow : (n : ℕ) → Follows object_cmp (λ (r : ObjectRow). nat_cmp r.number n)
objects_follow n = record {
  falls = λ x y lt e. let less = nat_less x.number y.number lt in let same = equal_numbers y.number n e in less_cmp x.number n (omega arith);
  rises = λ x y lt e. let less = nat_less x.number y.number lt in let same = equal_numbers x.number n e in sym (nat_cmp_is y.number n Greater (omega arith));
  grows = λ x y lt. elim (grows_number x.number y.number n (nat_less x.number y.number lt)) [
    | inl e ↦ subst (λ r. ordering_index r ≤ ordering_index (nat_cmp y.number n)) (sym e) (index_less (nat_cmp y.number n))
    | inr e ↦ subst (λ r. ordering_index (nat_cmp x.number n) ≤ ordering_index r) (sym e) (index_greater (nat_cmp x.number n))
  ];
}

-- an object and a column against an object and a column
abbrev pub row_ord : ℕ → ℕ → SetRow → Ordering
row_ord o c r = ordering_then (nat_cmp r.object o) (nat_cmp r.column c)

then_less : (r s : Ordering) → ordering_then r s ≡ Less → (r ≡ Less) ⊎ ((r ≡ Equal) × (s ≡ Less))
then_less Less s e = inl refl
then_less Equal s e = inr (refl, e)
then_less Greater s e = cc

then_equal : (r s : Ordering) → ordering_then r s ≡ Equal → (r ≡ Equal) × (s ≡ Equal)
then_equal Less s e = cc
then_equal Equal s e = (refl, e)
then_equal Greater s e = cc

equal_cmp : (a b : ℕ) → a ≡ b → nat_cmp a b ≡ Equal
equal_cmp a b e = sym (nat_cmp_is a b Equal e)

greater_cmp : (a b : ℕ) → b < a → nat_cmp a b ≡ Greater
greater_cmp a b lt = sym (nat_cmp_is a b Greater lt)

by_column : (r s t : Ordering) → (s ≡ Less) ⊎ (t ≡ Greater) → ordering_index (ordering_then r s) ≤ ordering_index (ordering_then r t)
by_column Less s t h = omega arith
by_column Equal s t (inl e) = subst (λ u. ordering_index u ≤ ordering_index t) (sym e) (index_less t)
by_column Equal s t (inr e) = subst (λ u. ordering_index s ≤ ordering_index u) (sym e) (index_greater s)
by_column Greater s t h = omega arith

pub rows_follow : (o c : ℕ) → Follows row_cmp (row_ord o c)
rows_follow o c = record {
  falls = λ x y lt e.
      let same = then_equal (nat_cmp y.object o) (nat_cmp y.column c) e in
      let object = equal_numbers y.object o same.0 in
      let column = equal_numbers y.column c same.1 in
      elim (then_less (nat_cmp x.object y.object) (nat_cmp x.column y.column) lt) [
        | inl h ↦ let less = nat_less x.object y.object h in ap (λ r. ordering_then r (nat_cmp x.column c)) (less_cmp x.object o (omega arith))
        | inr h ↦
            let tied = equal_numbers x.object y.object h.0 in
            let less = nat_less x.column y.column h.1 in
            ap (λ r. ordering_then r (nat_cmp x.column c)) (equal_cmp x.object o (omega arith)) ∙ less_cmp x.column c (omega arith)
      ];
  rises = λ x y lt e.
      let same = then_equal (nat_cmp x.object o) (nat_cmp x.column c) e in
      let object = equal_numbers x.object o same.0 in
      let column = equal_numbers x.column c same.1 in
      elim (then_less (nat_cmp x.object y.object) (nat_cmp x.column y.column) lt) [
        | inl h ↦ let less = nat_less x.object y.object h in ap (λ r. ordering_then r (nat_cmp y.column c)) (greater_cmp y.object o (omega arith))
        | inr h ↦
            let tied = equal_numbers x.object y.object h.0 in
            let less = nat_less x.column y.column h.1 in
            ap (λ r. ordering_then r (nat_cmp y.column c)) (equal_cmp y.object o (omega arith)) ∙ greater_cmp y.column c (omega arith)
      ];
  grows = λ x y lt.
      elim (then_less (nat_cmp x.object y.object) (nat_cmp x.column y.column) lt) [
        | inl h ↦
            elim (grows_number x.object y.object o (nat_less x.object y.object h)) [
              | inl e ↦ subst (λ r. ordering_index (ordering_then r (nat_cmp x.column c)) ≤ ordering_index (row_ord o c y)) (sym e) (index_less (row_ord o c y))
              | inr e ↦ subst (λ r. ordering_index (row_ord o c x) ≤ ordering_index (ordering_then r (nat_cmp y.column c))) (sym e)
                  (index_greater (row_ord o c x))
            ]
        | inr h ↦
            let tied = equal_numbers x.object y.object h.0 in
            subst (λ n. ordering_index (ordering_then (nat_cmp x.object o) (nat_cmp x.column c)) ≤ ordering_index
            (ordering_then (nat_cmp n o) (nat_cmp y.column c))) tied
            (by_column (nat_cmp x.object o) (nat_cmp x.column c) (nat_cmp y.column c) (grows_number x.column y.column c (nat_less x.column y.column h.1)))
      ];
}

-- by tests that agree
same_from : {A : Type 0} (p q : A → Bool) → ((x : A) → p x ≡ q x) → (i : ℕ) (ys : List A) → position_from p i ys ≡ position_from q i ys
same_from p q e i [] = refl
same_from p q e i (y ∷ ys) = ap (λ b. cond b (Some i) (position_from p (i + 1) ys)) (e y) ∙ ap (cond (q y) (Some i)) (same_from p q e (i + 1) ys)

position_same : {A : Type 0} (p q : A → Bool) → ((x : A) → p x ≡ q x) → (xs : List A) → position p xs ≡ position q xs
position_same p q e xs = position_from-zero p xs ∙ same_from p q e 0 xs ∙ sym (position_from-zero q xs)

eq_number : (a n : ℕ) → is_eq (nat_cmp a n) ≡ (a == n)
eq_number a n =
    elim (a == n) as (λ b. (a == n) ≡ b → is_eq (nat_cmp a n) ≡ b) [
      | true ↦ λ e. ap is_eq (equal_cmp a n (eqb-true a n e))
      | false ↦ λ e. elim (nat_cmp a n) as (λ r. nat_cmp a n ≡ r → is_eq r ≡ false) [
        | Less ↦ λ h. refl
        | Equal ↦ λ h. let t : (a == n) ≡ true = eq-eqb a n (equal_numbers a n h) in cc
        | Greater ↦ λ h. refl
      ] refl
    ] refl

pub object_tests : (o : ℕ) (rows : List ObjectRow) → position (λ (r : ObjectRow). r.live && is_eq (nat_cmp r.number o)) rows ≡ position (is_object o) rows
object_tests o rows =
    position_same (λ (r : ObjectRow). r.live && is_eq (nat_cmp r.number o)) (is_object o) (λ r. ap (λ b. r.live && b) (eq_number r.number o)) rows

eq_then : (r s : Ordering) → is_eq (ordering_then r s) ≡ (is_eq r && is_eq s)
eq_then Less s = refl
eq_then Equal s = refl
eq_then Greater s = refl

pub set_tests : (o c : ℕ) (rows : List SetRow) → position (λ (r : SetRow). r.live && is_eq (row_ord o c r)) rows ≡ position (is_set o c) rows
set_tests o c rows =
    position_same (λ (r : SetRow). r.live && is_eq (row_ord o c r)) (is_set o c)
    (λ r. ap (λ b. r.live && b) (eq_then (nat_cmp r.object o) (nat_cmp r.column c) ∙ ap (λ b. b && is_eq (nat_cmp r.column c)) (eq_number r.object o)
    ∙ ap (λ b. r.object == o && b) (eq_number r.column c))) rows
