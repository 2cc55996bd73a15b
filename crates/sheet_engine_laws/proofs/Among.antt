-- Cells that are settled among themselves have their meanings.
use Rattle.std.proofs.Common.{◌≡◌, refl, sym, ap, ◌∙◌, subst, inl, inr, ℕ, zero, suc, ◌+◌, true, false, List, [], ◌∷◌, arith}
use Rattle.std.specs.Prelude.{Option, Some, None, if◌then◌else◌}
use Rattle.sheet_values.specs.declared.value.Value.{Value}
use Rattle.sheet_values.specs.declared.value.Value.TheVariants.{Object}
use Rattle.sheet_columns.specs.declared.fault.Place.TheVariants as place
use Rattle.sheet_columns.specs.declared.item.Item.TheVariants.{Live, Up, Extent, Stored}
use Rattle.sheet_meaning.specs.declared.run.Use.{Use}
use Rattle.sheet_meaning.specs.declared.run.Use.TheVariants as used
use Rattle.sheet_meaning.specs.Run.{Outcome, none}
use Rattle.sheet_meaning.specs.Workbook.{FormulaCell, formula_cells, world}
use Rattle.sheet_meaning.specs.Rounds.{run_cell, outcome_after, rounds, cell_in}
use Rattle.sheet_meaning.specs.Reads.{AgreeAt}
use Rattle.sheet_meaning.specs.Support.{Cell, has_cell, cell_at}
use Rattle.sheet_meaning.specs.declared.workbook.Workbook.{Workbook}
use Rattle.sheet_meaning.proofs.Members.{IsIn, Within, in_filter_map, within_filter_map}
use Rattle.sheet_meaning.proofs.Cells.{in_has}
use Rattle.sheet_meaning.proofs.Below.{IsBelow, run_below}
use Rattle.sheet_meaning.proofs.Tracks.{uses_suffice}
use Rattle.sheet_meaning.proofs.Alike.{all_agree, outcome_of, outcome_by_cell, none_at_first, below_below}
use Rattle.sheet_meaning.proofs.Settling.{later_same}
use Rattle.sheet_engine_laws.specs.Found.{cells_in}
use Rattle.sheet_engine_laws.specs.Local.{comes_to, used_by, among_themselves, AreLocal, LocalRoundsSettle}

abbrev Outcomes : Type 0
Outcomes = ℕ → ℕ → Outcome (List Value)

module _ (w : Workbook) where
  abbrev formula_at : Cell → Option FormulaCell
  formula_at x = cell_at (formula_cells w) x

  module _ (t u : Outcomes) (h : (o c : ℕ) → IsBelow (t o c) (u o c)) where
    comes_below : (f : Option FormulaCell) → IsBelow (comes_to (world w t) f) (comes_to (world w u) f)
    comes_below None = inl refl
    comes_below (Some f) = (run_below w t u h (place.Cell f.object f.column) f.core ((Object f.object ∷ []) ∷ [])).is

    used_below : (f : Option FormulaCell) → Within (used_by (world w t) f) (used_by (world w u) f)
    used_below None = record { each = λ x i. i }
    used_below (Some f) = (run_below w t u h (place.Cell f.object f.column) f.core ((Object f.object ∷ []) ∷ [])).uses

  agrees : (t u : Outcomes) (x : Use) → ((y : Cell) → cell_in x ≡ Some y → t y.0 y.1 ≡ u y.0 y.1) → AgreeAt (world w t) (world w u) x
  agrees t u (used.Read (Live o)) h = refl
  agrees t u (used.Read (Up o)) h = refl
  agrees t u (used.Read (Extent o c)) h = refl
  agrees t u (used.Read (Stored o c)) h = refl
  agrees t u (used.Cell o c) h = h (o, c) refl

  -- outcomes that agree at what a formula uses give it the same
  comes_same : (t u : Outcomes) (f : Option FormulaCell) → ((y : Cell) → IsIn y (cells_in (used_by (world w t) f)) → t y.0 y.1 ≡ u y.0 y.1) →
      comes_to (world w u) f ≡ comes_to (world w t) f
  comes_same t u None h = refl
  comes_same t u (Some f) h =
      let us = (run_cell (world w t) f).uses in
      ap (λ r. r.outcome)
      (uses_suffice (world w t) (world w u) (place.Cell f.object f.column) ((Object f.object ∷ []) ∷ []) f.core
      (all_agree (world w t) (world w u) us (λ x i. agrees t u x (λ y e. h y (in_filter_map cell_in us x y i e)))))

  in_round : (j : ℕ) (x : Cell) → outcome_after w (suc j) x.0 x.1 ≡ comes_to (world w (outcome_after w j)) (formula_at x)
  in_round j x =
      outcome_by_cell (λ f. (run_cell (world w (outcome_after w j)) f).outcome) (formula_cells w) x
      ∙ elim (formula_at x) as (λ f. outcome_of (λ g. (run_cell (world w (outcome_after w j)) g).outcome) f ≡ comes_to (world w (outcome_after w j)) f)
      [ None ↦ refl | Some f ↦ refl ]

  module _ (cells : List Cell) where
    abbrev own : ℕ → Outcomes
    own j = among_themselves w cells j

    own_grows : (j : ℕ) (o c : ℕ) → IsBelow (own j o c) (own (suc j) o c)
    own_grows zero o c = inl refl
    own_grows (suc j) o c =
        elim (has_cell cells (o, c))
        as (λ b. IsBelow (if b then comes_to (world w (own j)) (formula_at (o, c)) else none)
        (if b then comes_to (world w (own (suc j))) (formula_at (o, c)) else none)) [
          | true ↦ comes_below (own j) (own (suc j)) (own_grows j) (formula_at (o, c))
          | false ↦ inl refl
        ]

    own_below : (j d : ℕ) (o c : ℕ) → IsBelow (own j o c) (own (d + j) o c)
    own_below j zero o c = let z : zero + j ≡ j = omega arith in inr (ap (λ i. own i o c) z)
    own_below j (suc d) o c =
        let z : suc d + j ≡ suc (d + j) = omega arith in
        subst (λ i. IsBelow (own j o c) (own i o c)) (sym z) (below_below _ _ _ (own_below j d o c) (own_grows (d + j) o c))

    module _ (k : ℕ) (local : AreLocal w cells k) where
      -- what a formula uses in an earlier round is among the cells
      among : (j d : ℕ) → d + j ≡ k → (x y : Cell) → has_cell cells x ≡ true → IsIn y (cells_in (used_by (world w (own j)) (formula_at x))) →
          has_cell cells y ≡ true
      among j d e x y h i =
          let within = used_below (own j) (own k) (λ o c. subst (λ n. IsBelow (own j o c) (own n o c)) e (own_below j d o c)) (formula_at x) in
          local.closed x y h (in_has (cells_in (used_by (world w (own k)) (formula_at x))) y ((within_filter_map cell_in _ _ within).each y i))

      own_step : (j : ℕ) (x : Cell) → has_cell cells x ≡ true → own (suc j) x.0 x.1 ≡ comes_to (world w (own j)) (formula_at x)
      own_step j x h = ap (λ b. if b then comes_to (world w (own j)) (formula_at x) else none) h

      -- in these rounds the cells have the outcomes that they have among all
      same_so_far : (j d : ℕ) → d + j ≡ k → (x : Cell) → has_cell cells x ≡ true → own j x.0 x.1 ≡ outcome_after w j x.0 x.1
      same_so_far zero d e x h = sym (none_at_first (formula_cells w) x)
      same_so_far (suc j) d e x h =
          let one_less : suc d + j ≡ k = omega (arith, e) in
          own_step j x h
          ∙ sym (comes_same (own j) (outcome_after w j) (formula_at x) (λ y i. same_so_far j (suc d) one_less y (among j (suc d) one_less x y h i)))
          ∙ sym (in_round j x)

      -- and in all later ones
      same_later : (d : ℕ) (x : Cell) → has_cell cells x ≡ true → outcome_after w (d + k) x.0 x.1 ≡ own k x.0 x.1
      same_later zero x h =
          let z : zero + k ≡ k = omega arith in
          ap (λ i. outcome_after w i x.0 x.1) z ∙ sym (same_so_far k zero z x h)
      same_later (suc d) x h =
          let z : suc d + k ≡ suc (d + k) = omega arith in
          let here : zero + k ≡ k = omega arith in
          ap (λ i. outcome_after w i x.0 x.1) z
          ∙ in_round (d + k) x
          ∙ comes_same (own k) (outcome_after w (d + k)) (formula_at x) (λ y i. sym (same_later d y (among k zero here x y h i)))
          ∙ sym (own_step k x h)
          ∙ local.settled x h

pub local_rounds_settle : LocalRoundsSettle
local_rounds_settle w cells k local x h = sym (same_later w cells k local (rounds w) x h) ∙ later_same w x.0 x.1 (rounds w + k) (omega arith)
