-- The cells that are reached.
use Rattle.std.proofs.Common.{◌≡◌, refl, sym, subst, inl, inr, ⊎_elim, ℕ, zero, suc, ◌+◌, ◌<◌, ◌≤◌, Bool, true, false, List, [], ◌∷◌, length, arith}
use Rattle.std.specs.Prelude.{◌⊎◌, Some, None, if◌then◌else◌}
use Rattle.std.specs.List.{filter_map, flat_map}
use Rattle.sheet_meaning.specs.Workbook.{FormulaCell, formula_cells}
use Rattle.sheet_meaning.specs.Rounds.{rounds, cell_in}
use Rattle.sheet_meaning.specs.Support.{Cell, has_cell, with_cells, cell_at, uses_of, cells_read, spread, reached_from, Reaches, ReachedIsAll}
use Rattle.sheet_meaning.proofs.Members.{IsIn, in_flat_map, from_flat_map}
use Rattle.sheet_meaning.proofs.Cells.{same_cell, has_in, in_has, kept_in, added_in, from_cells, found_in}
use Rattle.sheet_meaning.specs.declared.workbook.Workbook.{Workbook}

-- how many formula cells pass a test
abbrev count : (FormulaCell → Bool) → List FormulaCell → ℕ
count p [] = 0
count p (f ∷ fs) = count p fs + (if p f then 1 else 0)

count_le : (p : FormulaCell → Bool) (fs : List FormulaCell) → count p fs ≤ length fs
count_le p [] = omega arith
count_le p (f ∷ fs) =
    elim (p f) as (λ b. count p fs + (if b then 1 else 0) ≤ suc (length fs)) [ true ↦ omega (arith, count_le p fs) | false ↦ omega (arith, count_le p fs) ]

-- those that pass the second test pass the first
record Back (p q : FormulaCell → Bool) (fs : List FormulaCell) : Type 0 where
  each : (f : FormulaCell) → IsIn f fs → q f ≡ true → p f ≡ true

abbrev Grows : Bool → Bool → Type 0
Grows a b = a ≡ true → b ≡ true

one_more : (m n : ℕ) (a b : Bool) → Grows a b → m < n → m + (if a then 1 else 0) < n + (if b then 1 else 0)
one_more m n true true g lt = omega arith
one_more m n true false g lt = let e = g refl in cc
one_more m n false true g lt = omega arith
one_more m n false false g lt = omega arith

same_so_far : (m n : ℕ) (a b : Bool) → Grows a b → m ≤ n → (b ≡ true → a ≡ true) ⊎ (m + (if a then 1 else 0) < n + (if b then 1 else 0))
same_so_far m n true true g le = inl (λ e. refl)
same_so_far m n true false g le = inl (λ e. refl)
same_so_far m n false true g le = inr (omega arith)
same_so_far m n false false g le = inl (λ e. e)

count_grows : (m n : ℕ) (a b : Bool) → Grows a b → m ≤ n → m + (if a then 1 else 0) ≤ n + (if b then 1 else 0)
count_grows m n true true g le = omega arith
count_grows m n true false g le = let e = g refl in cc
count_grows m n false true g le = omega arith
count_grows m n false false g le = omega arith

module _ (p q : FormulaCell → Bool) (grows : (f : FormulaCell) → Grows (p f) (q f)) where
  count_le_count : (fs : List FormulaCell) → count p fs ≤ count q fs
  count_le_count [] = omega arith
  count_le_count (f ∷ fs) = count_grows (count p fs) (count q fs) (p f) (q f) (grows f) (count_le_count fs)

  -- the tests pass the same, or the second passes more
  back_or_more : (fs : List FormulaCell) → Back p q fs ⊎ (count p fs < count q fs)
  back_or_more [] = inl (record { each = λ f h e. absurd h })
  back_or_more (f ∷ fs) =
      ⊎_elim
      (λ back. ⊎_elim
      (λ here. inl (record {
        each = λ g h e. ⊎_elim (λ same. subst (λ x. p x ≡ true) (sym same) (here (subst (λ x. q x ≡ true) same e))) (λ k. back.each g k e)
            h;
      }))
      (λ lt. inr lt)
      (same_so_far (count p fs) (count q fs) (p f) (q f) (grows f) (count_le_count fs)))
      (λ lt. inr (one_more (count p fs) (count q fs) (p f) (q f) (grows f) lt))
      (back_or_more fs)

module _ (w : Workbook) where
  -- what a cell of the list reads is in the list
  record Closed (cells : List Cell) : Type 0 where
    each : (x y : Cell) → IsIn x cells → IsIn y (cells_read w x) → IsIn y cells

  module _ (start : List Cell) where
    abbrev cells : ℕ → List Cell
    cells k = spread w k start

    -- whether a formula cell is among those reached so far
    abbrev is_reached : ℕ → FormulaCell → Bool
    is_reached k f = has_cell (cells k) (f.object, f.column)

    rises : (k : ℕ) (x : Cell) → IsIn x (cells k) → IsIn x (cells (suc k))
    rises k x h = kept_in (cells k) (flat_map (cells_read w) (cells k)) x h

    next : (k : ℕ) (x y : Cell) → IsIn x (cells k) → IsIn y (cells_read w x) → IsIn y (cells (suc k))
    next k x y h r = added_in (cells k) (flat_map (cells_read w) (cells k)) y (in_flat_map (cells_read w) (cells k) x y h r)

    closed_stays : (k : ℕ) → Closed (cells k) → Closed (cells (suc k))
    closed_stays k c = record {
      each = λ x y h r.
          ⊎_elim
          (λ a. next k x y a r)
          (λ b. let f = from_flat_map (cells_read w) (cells k) x b in next k x y (c.each f.0 x f.1 f.2) r)
          (from_cells (cells k) (flat_map (cells_read w) (cells k)) x h);
    }

    closed_by : (k : ℕ) → Back (is_reached k) (is_reached (suc k)) (formula_cells w) → Closed (cells (suc k))
    closed_by k back = record {
      each = λ x y h r.
          elim (cell_at (formula_cells w) x) as (λ o. cell_at (formula_cells w) x ≡ o → IsIn y (filter_map cell_in (uses_of w o)) → IsIn y (cells (suc k))) [
            | None ↦ λ e n. absurd n
            | Some f ↦ λ e u.
                let found = found_in (formula_cells w) x f e in
                let same : (f.object, f.column) ≡ x = same_cell (f.object, f.column) x found.1 in
                let there : has_cell (cells (suc k)) (f.object, f.column) ≡ true =
                subst (λ z. has_cell (cells (suc k)) z ≡ true) (sym same) (in_has (cells (suc k)) x h) in
                let before : IsIn x (cells k) = subst (λ z. IsIn z (cells k)) same (has_in (cells k) (f.object, f.column) (back.each f found.0 there)) in
                next k x y before r
          ] refl r;
    }

    closed_or_more : (k : ℕ) → Closed (cells (suc k)) ⊎ (count (is_reached k) (formula_cells w) < count (is_reached (suc k)) (formula_cells w))
    closed_or_more k =
        ⊎_elim (λ back. inl (closed_by k back)) (λ lt. inr lt)
        (back_or_more (is_reached k) (is_reached (suc k))
        (λ f e. in_has (cells (suc k)) (f.object, f.column) (rises k (f.object, f.column) (has_in (cells k) (f.object, f.column) e))) (formula_cells w))

    closed_or_many : (k : ℕ) → Closed (cells k) ⊎ (k ≤ count (is_reached k) (formula_cells w))
    closed_or_many zero = inr (omega arith)
    closed_or_many (suc k) =
        ⊎_elim
        (λ c. inl (closed_stays k c))
        (λ le. ⊎_elim (λ c. inl c) (λ lt. inr (omega (arith, le, lt))) (closed_or_more k))
        (closed_or_many k)

    closed : Closed (cells (suc (rounds w)))
    closed = ⊎_elim (λ c. c) (λ le. absurd (omega (arith, le, count_le (is_reached (suc (rounds w))) (formula_cells w)))) (closed_or_many (suc (rounds w)))

    starts : (k : ℕ) (x : Cell) → IsIn x start → IsIn x (cells k)
    starts zero x h = h
    starts (suc k) x h = rises k x (starts k x h)

  module _ (from : List Cell) where
    sound : (k : ℕ) (x : Cell) → IsIn x (spread w k (with_cells [] from)) → Reaches w from x
    sound zero x h = ⊎_elim (λ n. absurd n) (λ k. Reaches.direct x (in_has from x k)) (from_cells [] from x h)
    sound (suc k) x h =
        ⊎_elim
        (sound k x)
        (λ b.
        let f = from_flat_map (cells_read w) (spread w k (with_cells [] from)) x b in
        Reaches.through f.0 x (sound k f.0 f.1) (in_has (cells_read w f.0) x f.2))
        (from_cells (spread w k (with_cells [] from)) (flat_map (cells_read w) (spread w k (with_cells [] from))) x h)

    pub complete : (x : Cell) → Reaches w from x → IsIn x (reached_from w from)
    complete z (Reaches.direct x h) = starts (with_cells [] from) (suc (rounds w)) x (added_in [] from x (has_in from x h))
    complete z (Reaches.through x y r h) = (closed (with_cells [] from)).each x y (complete x r) (has_in (cells_read w x) y h)

pub reached_is_all : ReachedIsAll
reached_is_all w from x = (λ h. sound w from (suc (rounds w)) x (has_in (reached_from w from) x h), λ r. in_has (reached_from w from) x (complete w from x r))
