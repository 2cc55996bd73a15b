-- After as many rounds as there are formula cells, no round changes the table.
use Rattle.std.proofs.Common.{◌≡◌, refl, sym, ap, ◌∙◌, subst, inl, inr, ⊎_elim, ℕ, zero, suc, ◌+◌, ◌<◌, ◌≤◌, true, false, List, [], ◌∷◌, length, arith}
use Rattle.std.specs.Prelude.{map, Ok, Err, ◌⊎◌, if◌then◌else◌, ◌==◌, ◌&&◌}
use Rattle.std.proofs.lemmas.Bool.{cases_lt}
use Rattle.sheet_values.specs.declared.value.Value.{Value}
use Rattle.sheet_values.specs.declared.value.Value.TheVariants.{Object}
use Rattle.sheet_columns.specs.declared.fault.Fault.TheVariants as fault
use Rattle.sheet_columns.specs.declared.fault.Place.TheVariants as place
use Rattle.sheet_meaning.specs.Run.{Outcome, none, is_none}
use Rattle.sheet_meaning.specs.Workbook.{FormulaCell, formula_cells}
use Rattle.sheet_meaning.specs.Rounds.{Table, outcome_in, run_cell, world_at, next_table, table, outcome_after, rounds, meaning, RoundsEnd, CyclesAreFinal}
use Rattle.sheet_meaning.proofs.Below.{IsBelow, run_below}
use Rattle.sheet_meaning.specs.declared.workbook.Workbook.{Workbook}

abbrev pub TableBelow : Table → Table → Type 0
TableBelow [] [] = Unit {0}
TableBelow [] (y ∷ u) = ⊥
TableBelow (x ∷ t) [] = ⊥
TableBelow (x ∷ t) (y ∷ u) = IsBelow x y × TableBelow t u

pub outcome_below : (fs : List FormulaCell) (t u : Table) → TableBelow t u → (o c : ℕ) → IsBelow (outcome_in fs t o c) (outcome_in fs u o c)
outcome_below [] t u h o c = inl refl
outcome_below (f ∷ fs) [] [] h o c = inl refl
outcome_below (f ∷ fs) [] (y ∷ u) h o c = absurd h
outcome_below (f ∷ fs) (x ∷ t) [] h o c = absurd h
outcome_below (f ∷ fs) (x ∷ t) (y ∷ u) h o c =
    elim (f.object == o && f.column == c) as (λ b. IsBelow (if b then x else outcome_in fs t o c) (if b then y else outcome_in fs u o c)) [
      | true ↦ h.0
      | false ↦ outcome_below fs t u h.1 o c
    ]

map_below : (f g : FormulaCell → Outcome (List Value)) → ((x : FormulaCell) → IsBelow (f x) (g x)) → (fs : List FormulaCell) → TableBelow (map f fs) (map g fs)
map_below f g h [] = tt
map_below f g h (x ∷ fs) = (h x, map_below f g h fs)

-- 1 for an outcome that is there
abbrev weight : Outcome (List Value) → ℕ
weight (Ok s) = 1
weight (Err e) = if is_none e then 0 else 1

-- how many cells have an outcome
abbrev settled_count : Table → ℕ
settled_count [] = 0
settled_count (x ∷ t) = settled_count t + weight x

weight_le : (x : Outcome (List Value)) → weight x ≤ 1
weight_le (Ok s) = omega arith
weight_le (Err e) = elim (is_none e) as (λ b. (if b then 0 else 1) ≤ 1) [ true ↦ omega arith | false ↦ omega arith ]

count_le-length : (t : Table) → settled_count t ≤ length t
count_le-length [] = omega arith
count_le-length (x ∷ t) = omega (arith, count_le-length t, weight_le x)

same_or_none : (x : Outcome (List Value)) → (x ≡ none) ⊎ (weight x ≡ 1)
same_or_none (Ok s) = inr refl
same_or_none (Err fault.Cycle) = inl refl
same_or_none (Err (fault.NotOne how p)) = inr refl
same_or_none (Err (fault.Overflow p)) = inr refl
same_or_none (Err (fault.ZeroDivisor p)) = inr refl
same_or_none (Err (fault.TextTooLong p)) = inr refl

-- a cell stays as it is, or gets an outcome
stays_or_settles : (x y : Outcome (List Value)) → IsBelow x y → (x ≡ y) ⊎ ((weight x ≡ 0) × (weight y ≡ 1))
stays_or_settles x y b =
    ⊎_elim
    (λ e. ⊎_elim (λ f. inl (e ∙ sym f)) (λ one. inr (ap weight e, one)) (same_or_none y))
    (λ e. inl (sym e))
    b

weight_rises : (x y : Outcome (List Value)) → IsBelow x y → weight x ≤ weight y
weight_rises x y b = ⊎_elim (λ e. let same : weight x ≡ weight y = ap weight e in omega (arith, same)) (λ h. omega (arith, h.0, h.1)) (stays_or_settles x y b)

count_rises : (t u : Table) → TableBelow t u → settled_count t ≤ settled_count u
count_rises [] [] h = omega arith
count_rises [] (y ∷ u) h = absurd h
count_rises (x ∷ t) [] h = absurd h
count_rises (x ∷ t) (y ∷ u) h = omega (arith, count_rises t u h.1, weight_rises x y h.0)

same_or_more : (t u : Table) → TableBelow t u → (t ≡ u) ⊎ (settled_count t < settled_count u)
same_or_more [] [] h = inl refl
same_or_more [] (y ∷ u) h = absurd h
same_or_more (x ∷ t) [] h = absurd h
same_or_more (x ∷ t) (y ∷ u) h =
    ⊎_elim
    (λ e. ⊎_elim (λ es. inl (ap (λ z. z ∷ t) e ∙ ap (λ l. y ∷ l) es)) (λ lt. inr (omega (arith, lt, weight_rises x y h.0))) (same_or_more t u h.1))
    (λ k. inr (omega (arith, k.0, k.1, count_rises t u h.1)))
    (stays_or_settles x y h.0)

length_map : (f : FormulaCell → Outcome (List Value)) (fs : List FormulaCell) → length (map f fs) ≡ length fs
length_map f [] = refl
length_map f (x ∷ fs) = ap suc (length_map f fs)

module _ (w : Workbook) where
  next_below : (t u : Table) → TableBelow t u → TableBelow (next_table w t) (next_table w u)
  next_below t u h =
      map_below (λ f. (run_cell (world_at w t) f).outcome) (λ f. (run_cell (world_at w u) f).outcome)
      (λ f. (run_below w (outcome_in (formula_cells w) t) (outcome_in (formula_cells w) u) (outcome_below (formula_cells w) t u h)
      (place.Cell f.object f.column) f.core ((Object f.object ∷ []) ∷ [])).is)
      (formula_cells w)

  pub grows : (k : ℕ) → TableBelow (table w k) (table w (suc k))
  grows zero = map_below (λ f. none) (λ f. (run_cell (world_at w (table w zero)) f).outcome) (λ f. inl refl) (formula_cells w)
  grows (suc k) = next_below (table w k) (table w (suc k)) (grows k)

  progress : (k : ℕ) → (table w (suc k) ≡ table w k) ⊎ (k + 1 ≤ settled_count (table w (suc k)))
  progress zero = ⊎_elim (λ e. inl (sym e)) (λ lt. inr (omega (arith, lt))) (same_or_more (table w zero) (table w (suc zero)) (grows zero))
  progress (suc k) =
      ⊎_elim
      (λ e. inl (ap (next_table w) e))
      (λ le. ⊎_elim (λ e. inl (sym e)) (λ lt. inr (omega (arith, le, lt))) (same_or_more (table w (suc k)) (table w (suc (suc k))) (grows (suc k))))
      (progress k)

  table_length : (k : ℕ) → length (table w k) ≡ rounds w
  table_length zero = length_map _ (formula_cells w)
  table_length (suc k) = length_map _ (formula_cells w)

  stays : (k : ℕ) → rounds w ≤ k → table w (suc k) ≡ table w k
  stays k enough =
      ⊎_elim (λ e. e) (λ le. absurd (omega (arith, le, count_le-length (table w (suc k)), table_length (suc k), enough))) (progress k)

  pub ends_from : (k : ℕ) → rounds w ≤ k → table w k ≡ table w (rounds w)
  ends_from zero enough = let e : zero ≡ rounds w = omega arith in ap (table w) e
  ends_from (suc k) enough =
      ⊎_elim
      (λ lt. let e : suc k ≡ rounds w = omega arith in ap (table w) e)
      (λ le. stays k le ∙ ends_from k le)
      (cases_lt k (rounds w))

pub rounds_end : RoundsEnd
rounds_end = ends_from

pub none_below : (o q : Outcome (List Value)) → IsBelow o q → q ≡ none → o ≡ none
none_below o q b e = ⊎_elim (λ n. n) (λ same. sym same ∙ e) b

-- from one round to a later one
module _ (w : Workbook) where
  later_none : (o c k j : ℕ) → outcome_after w (j + k) o c ≡ none → outcome_after w k o c ≡ none
  later_none o c k zero e = let z : zero + k ≡ k = omega arith in subst (λ i. outcome_after w i o c ≡ none) z e
  later_none o c k (suc j) e =
      let z : suc j + k ≡ suc (j + k) = omega arith in
      later_none o c k j
      (none_below _ _ (outcome_below (formula_cells w) (table w (j + k)) (table w (suc (j + k))) (grows w (j + k)) o c)
      (subst (λ i. outcome_after w i o c ≡ none) z e))

  pub later_same : (o c k : ℕ) → rounds w ≤ k → outcome_after w k o c ≡ meaning w o c
  later_same o c k le = ap (λ t. outcome_in (formula_cells w) t o c) (ends_from w k le)

pub cycles_are_final : CyclesAreFinal
cycles_are_final w o c = record {
  never = λ e k. later_none w o c k (rounds w) (later_same w o c (rounds w + k) (omega arith) ∙ e);
  only = λ h. h (rounds w);
  stays = later_same w o c;
}
