-- The references to an object stand between two places.
use Rattle.std.proofs.Common.{◌≡◌, ◌∙◌, refl, sym, ap, ℕ, ◌+◌, ◌<◌, Bool, true, false, List, [], ◌∷◌, arith, inl, inr, eq-eqb, cond}
use Rattle.std.specs.Prelude.{filter, not, ◌==◌, ◌&&◌, ◌||◌}
use Rattle.std.specs.declared.cmp.Ordering.{Ordering}
use Rattle.std.specs.declared.cmp.Ordering.TheVariants.{Less, Equal, Greater}
use Rattle.std.specs.declared.ops.Bound.TheVariants.{Included, Excluded}
use Rattle.std.specs.Ordering.{nat_cmp, is_eq, is_le, ordering_then}
use Rattle.std.specs.FinMap.{nat_cmp-IsAntisymmetric}
use Rattle.std.specs.Cmp.{nat_cmp_is}
use Rattle.std.specs.BTreeMap.Range.{range_contains}
use Rattle.std.proofs.lemmas.Bool.{eqb-true, cases_lt}
use Rattle.sheet_values.specs.Sorted.{contains}
use Rattle.sheet_state_references.specs.Order.{reference_cmp, is_to}
use Rattle.sheet_state_references.specs.declared.references.Reference.{Reference}
use Rattle.sheet_state_references.proofs.Numbers.{other}

-- the least reference to an object
abbrev pub least : ℕ → Reference
least n = record { to = n; object = 0; column = 0 }

at_least : (n : ℕ) → is_le (nat_cmp 0 n) ≡ true
at_least n =
    elim (cases_lt 0 n) [
      | inl lt ↦ ap is_le (sym (nat_cmp_is 0 n Less lt))
      | inr ge ↦ ap is_le (sym (nat_cmp_is 0 n Equal (omega arith)))
    ]

both_le : (a b : Ordering) → is_le a ≡ true → is_le b ≡ true → is_le (ordering_then a b) ≡ true
both_le Less b e f = refl
both_le Equal b e f = f
both_le Greater b e f = cc

-- the least reference to a number against one to another
below : (n : ℕ) (r : Reference) → n < r.to → is_le (reference_cmp (least n) r) ≡ true
below n r lt = ap (λ o. is_le (ordering_then o (ordering_then (nat_cmp 0 r.object) (nat_cmp 0 r.column)))) (sym (nat_cmp_is n r.to Less lt))

tied : (n : ℕ) (r : Reference) → n ≡ r.to → is_le (reference_cmp (least n) r) ≡ true
tied n r e =
    ap (λ o. is_le (ordering_then o (ordering_then (nat_cmp 0 r.object) (nat_cmp 0 r.column)))) (sym (nat_cmp_is n r.to Equal e))
    ∙ both_le (nat_cmp 0 r.object) (nat_cmp 0 r.column) (at_least r.object) (at_least r.column)

above : (n : ℕ) (r : Reference) → r.to < n → is_le (reference_cmp (least n) r) ≡ false
above n r lt = ap (λ o. is_le (ordering_then o (ordering_then (nat_cmp 0 r.object) (nat_cmp 0 r.column)))) (sym (nat_cmp_is n r.to Greater lt))

inside : (n : ℕ) (r : Reference) → range_contains reference_cmp (Included (least n)) (Excluded (least (n + 1))) r ≡ is_to n r
inside n r =
    elim (cases_lt r.to n) [
      | inl lt ↦ ap (λ b. b && not (is_le (reference_cmp (least (n + 1)) r))) (above n r lt) ∙ sym (other r.to n (λ e. omega arith))
      | inr ge ↦ elim (cases_lt n r.to) [
        | inl gt ↦
            ap (λ b. is_le (reference_cmp (least n) r) && not b) (high gt)
            ∙ never (is_le (reference_cmp (least n) r))
            ∙ sym (other r.to n (λ e. omega arith))
        | inr le ↦
            let same : n ≡ r.to = omega arith in
            ap (λ b. b && not (is_le (reference_cmp (least (n + 1)) r))) (tied n r same)
            ∙ ap not (above (n + 1) r (omega arith))
            ∙ sym (eq-eqb r.to n (sym same))
      ]
    ]
  where
    never : (b : Bool) → (b && false) ≡ false
    never true = refl
    never false = refl

    high : n < r.to → is_le (reference_cmp (least (n + 1)) r) ≡ true
    high gt =
        elim (cases_lt (n + 1) r.to) [
          | inl lt ↦ below (n + 1) r lt
          | inr le ↦ tied (n + 1) r (omega arith)
        ]

pub between : (n : ℕ) (rs : List Reference) → filter (range_contains reference_cmp (Included (least n)) (Excluded (least (n + 1)))) rs ≡ filter (is_to n) rs
between n [] = refl
between n (r ∷ rs) =
    ap (λ b. cond b (r ∷ filter (range_contains reference_cmp (Included (least n)) (Excluded (least (n + 1)))) rs)
    (filter (range_contains reference_cmp (Included (least n)) (Excluded (least (n + 1)))) rs)) (inside n r)
    ∙ ap (λ l. cond (is_to n r) (r ∷ l) l) (between n rs)

pub same_reference : (r q : Reference) → is_eq (reference_cmp r q) ≡ true → r ≡ q
same_reference r q e =
    let to = first_tied (nat_cmp r.to q.to) _ (tie _ e) in
    let rest = second_tied (nat_cmp r.to q.to) _ (tie _ e) in
    let object = first_tied (nat_cmp r.object q.object) _ rest in
    let column = second_tied (nat_cmp r.object q.object) _ rest in
    ap (λ n. record { to = n; object = r.object; column = r.column }) (nat_cmp-IsAntisymmetric r.to q.to to)
    ∙ ap (λ n. record { to = q.to; object = n; column = r.column }) (nat_cmp-IsAntisymmetric r.object q.object object)
    ∙ ap (λ n. record { to = q.to; object = q.object; column = n }) (nat_cmp-IsAntisymmetric r.column q.column column)
  where
    tie : (o : Ordering) → is_eq o ≡ true → o ≡ Equal
    tie Less e = cc
    tie Equal e = refl
    tie Greater e = cc

    first_tied : (a b : Ordering) → ordering_then a b ≡ Equal → a ≡ Equal
    first_tied Less b e = cc
    first_tied Equal b e = refl
    first_tied Greater b e = cc

    second_tied : (a b : Ordering) → ordering_then a b ≡ Equal → b ≡ Equal
    second_tied Less b e = cc
    second_tied Equal b e = e
    second_tied Greater b e = cc

-- a reference that passes is still there where only those that pass are kept
pub stays : (p : Reference → Bool) (r : Reference) (rs : List Reference) → contains reference_cmp r rs ≡ true → p r ≡ true →
    contains reference_cmp r (filter p rs) ≡ true
stays p r [] e passes = cc
stays p r (q ∷ rs) e passes =
    elim (is_eq (reference_cmp r q)) as (λ b. is_eq (reference_cmp r q) ≡ b → (b || contains reference_cmp r rs) ≡ true →
    contains reference_cmp r (cond (p q) (q ∷ filter p rs) (filter p rs)) ≡ true) [
      | true ↦ λ h g.
          let kept : p q ≡ true = ap p (sym (same_reference r q h)) ∙ passes in
          ap (λ b. contains reference_cmp r (cond b (q ∷ filter p rs) (filter p rs))) kept ∙ ap (λ b. b || contains reference_cmp r (filter p rs)) h
      | false ↦ λ h g. more (p q) (stays p r rs g passes)
    ] refl e
  where
    more : (b : Bool) → contains reference_cmp r (filter p rs) ≡ true → contains reference_cmp r (cond b (q ∷ filter p rs) (filter p rs)) ≡ true
    more true g = right (is_eq (reference_cmp r q)) (contains reference_cmp r (filter p rs)) g
      where
        right : (a b : Bool) → b ≡ true → (a || b) ≡ true
        right true b e = refl
        right false b e = e
    more false g = g
