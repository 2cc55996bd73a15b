-- Two workbooks of one schema that agree at the items read by some cells, and by all that are reached from these, give those cells the
-- same outcomes in every round.
use Rattle.std.proofs.Common.{◌≡◌, refl, sym, ap, ◌∙◌, subst, inl, inr, ⊎_elim, ℕ, zero, suc, ◌+◌, true, false, List, [], ◌∷◌, arith}
use Rattle.std.specs.Prelude.{map, is_some, ◌==◌, ◌&&◌, Option, Some, None, if◌then◌else◌}
use Rattle.sheet_values.specs.declared.value.Value.{Value}
use Rattle.sheet_values.specs.declared.value.Value.TheVariants.{Object}
use Rattle.sheet_values.specs.Sorted.{IsRising}
use Rattle.sheet_columns.specs.declared.item.Item.{Item}
use Rattle.sheet_columns.specs.declared.item.Item.TheVariants.{Live, Up, Extent, Stored}
use Rattle.sheet_columns.specs.declared.fault.Place.TheVariants as place
use Rattle.sheet_meaning.specs.declared.run.Use.{Use}
use Rattle.sheet_meaning.specs.declared.run.Use.TheVariants as used
use Rattle.sheet_meaning.specs.Run.{Outcome, none}
use Rattle.sheet_meaning.specs.Formula.{World}
use Rattle.sheet_meaning.specs.Workbook.{FormulaCell, object_at, column_in, formula_cells, world}
use Rattle.sheet_meaning.specs.Rounds.{outcome_in, world_at, run_cell, table, outcome_after, meaning, rounds, settled_world, item_in, cell_in}
use Rattle.sheet_meaning.specs.Reads.{AgreeAt, Agree}
use Rattle.sheet_meaning.specs.Items.{Content, Column, Parent, Members, content}
use Rattle.sheet_meaning.specs.Support.{Cell, cell_at, uses_of, uses_at, cells_read, items_read, Reaches}
use Rattle.sheet_meaning.proofs.Members.{IsIn, in_filter_map}
use Rattle.sheet_meaning.proofs.Cells.{in_has}
use Rattle.sheet_meaning.proofs.Below.{IsBelow, run_below}
use Rattle.sheet_meaning.proofs.Tracks.{uses_suffice}
use Rattle.sheet_meaning.proofs.Settling.{outcome_below, grows, later_same, rounds_end}
use Rattle.sheet_meaning.proofs.FormulaCells.{object_cmp, cell_by_column, found_by_column}
use Rattle.sheet_meaning.specs.declared.workbook.Workbook.{Workbook}

column_part : Content → Option ℕ
column_part (Column c) = c
column_part (Parent p) = None
column_part (Members s) = None

parent_part : Content → Option ℕ
parent_part (Column c) = None
parent_part (Parent p) = p
parent_part (Members s) = None

members_part : Content → List Value
members_part (Column c) = []
members_part (Parent p) = []
members_part (Members s) = s

-- the same content is the same in two worlds
pub content_agrees : (w u : Workbook) (t v : ℕ → ℕ → Outcome (List Value)) (i : Item) → content w.state i ≡ content u.state i →
    AgreeAt (world w t) (world u v) (used.Read i)
unfolding column_part parent_part members_part
content_agrees w u t v (Live o) e = ap (λ c. is_some (column_part c)) e
content_agrees w u t v (Up o) e = ap parent_part e
content_agrees w u t v (Extent o c) e = ap members_part e
content_agrees w u t v (Stored o c) e = ap members_part e

pub all_agree : (w u : World) (us : List Use) → ((x : Use) → IsIn x us → AgreeAt w u x) → Agree w u us
all_agree w u [] h = tt
all_agree w u (x ∷ us) h = (h x (inl refl), all_agree w u us (λ y k. h y (inr k)))

-- the outcome of a cell that has a formula
abbrev pub outcome_of : (FormulaCell → Outcome (List Value)) → Option FormulaCell → Outcome (List Value)
outcome_of g None = none
outcome_of g (Some f) = g f

pub outcome_by_cell : (g : FormulaCell → Outcome (List Value)) (fs : List FormulaCell) (x : Cell) →
    outcome_in fs (map g fs) x.0 x.1 ≡ outcome_of g (cell_at fs x)
outcome_by_cell g [] x = refl
outcome_by_cell g (f ∷ fs) x =
    elim (f.object == x.0 && f.column == x.1)
    as (λ b. (if b then g f else outcome_in fs (map g fs) x.0 x.1) ≡ outcome_of g (if b then Some f else cell_at fs x)) [
      | true ↦ refl
      | false ↦ outcome_by_cell g fs x
    ]

pub none_at_first : (fs : List FormulaCell) (x : Cell) → outcome_in fs (map (λ f. none) fs) x.0 x.1 ≡ none
none_at_first [] x = refl
none_at_first (f ∷ fs) x =
    elim (f.object == x.0 && f.column == x.1) as (λ b. (if b then none else outcome_in fs (map (λ f. none) fs) x.0 x.1) ≡ none) [
      | true ↦ refl
      | false ↦ none_at_first fs x
    ]

pub below_below : (o q r : Outcome (List Value)) → IsBelow o q → IsBelow q r → IsBelow o r
below_below o q r a b = ⊎_elim (λ e. inl e) (λ e. subst (λ x. IsBelow x r) e b) a

module _ (w : Workbook) (o c : ℕ) where
  below_later : (k j : ℕ) → IsBelow (outcome_after w k o c) (outcome_after w (j + k) o c)
  below_later k zero = let z : zero + k ≡ k = omega arith in inr (ap (λ i. outcome_after w i o c) z)
  below_later k (suc j) =
      let z : suc j + k ≡ suc (j + k) = omega arith in
      subst (λ i. IsBelow (outcome_after w k o c) (outcome_after w i o c)) (sym z)
      (below_below _ _ _ (below_later k j) (outcome_below (formula_cells w) (table w (j + k)) (table w (suc (j + k))) (grows w (j + k)) o c))

  -- what a cell has in a round, it has in the end
  pub below_meaning : (k : ℕ) → IsBelow (outcome_after w k o c) (meaning w o c)
  below_meaning k = subst (IsBelow (outcome_after w k o c)) (later_same w o c (rounds w + k) (omega arith)) (below_later k (rounds w))

-- what a cell's formula uses in a round, it uses in the end
uses_below : (w : Workbook) (k : ℕ) (f : FormulaCell) (x : Use) → IsIn x (run_cell (world_at w (table w k)) f).uses → IsIn x (run_cell (settled_world w) f).uses
uses_below w k f x h =
    (run_below w (outcome_in (formula_cells w) (table w k)) (outcome_in (formula_cells w) (table w (rounds w))) (λ o c. below_meaning w o c k)
    (place.Cell f.object f.column) f.core ((Object f.object ∷ []) ∷ [])).uses.each x h

module _ (w u : Workbook) (same : u.schema ≡ w.schema) (first : IsRising object_cmp w.state.objects) (second : IsRising object_cmp u.state.objects)
    (from : List Cell) (agree : (x : Cell) → Reaches w from x → (i : Item) → IsIn i (items_read w x) → content w.state i ≡ content u.state i) where
  same_cell : (x : Cell) → Reaches w from x → cell_at (formula_cells u) x ≡ cell_at (formula_cells w) x
  unfolding column_part
  same_cell x r =
      found_by_column u.schema x u.state.objects second
      ∙ ap (λ s. cell_by_column s x (column_in (object_at u.state.objects x.0))) same
      ∙ ap (cell_by_column w.schema x) (sym (ap column_part (agree x r (Live x.0) (inl refl))))
      ∙ sym (found_by_column w.schema x w.state.objects first)

  -- the reached cells have the same outcome in a round
  abbrev SameIn : ℕ → Type 0
  SameIn k = (x : Cell) → Reaches w from x → outcome_after u k x.0 x.1 ≡ outcome_after w k x.0 x.1

  agrees_in : (k : ℕ) → SameIn k → (x : Cell) → Reaches w from x → (y : Use) → IsIn y (uses_at w x) →
      AgreeAt (world_at w (table w k)) (world_at u (table u k)) y
  agrees_in k so_far x r (used.Read i) h =
      content_agrees w u (outcome_in (formula_cells w) (table w k)) (outcome_in (formula_cells u) (table u k)) i
      (agree x r i (inr (in_filter_map item_in (uses_at w x) (used.Read i) i h refl)))
  agrees_in k so_far x r (used.Cell o c) h =
      sym (so_far (o, c) (Reaches.through x (o, c) r (in_has (cells_read w x) (o, c) (in_filter_map cell_in (uses_at w x) (used.Cell o c) (o, c) h refl))))

  same_run : (k : ℕ) → SameIn k → (x : Cell) → Reaches w from x → (f : FormulaCell) → cell_at (formula_cells w) x ≡ Some f →
      run_cell (world_at u (table u k)) f ≡ run_cell (world_at w (table w k)) f
  same_run k so_far x r f e =
      uses_suffice (world_at w (table w k)) (world_at u (table u k)) (place.Cell f.object f.column) ((Object f.object ∷ []) ∷ []) f.core
      (all_agree (world_at w (table w k)) (world_at u (table u k)) (run_cell (world_at w (table w k)) f).uses
      (λ y h. agrees_in k so_far x r y (subst (λ o. IsIn y (uses_of w o)) (sym e) (uses_below w k f y h))))

  same_outcome : (k : ℕ) → SameIn k
  same_outcome zero x r = none_at_first (formula_cells u) x ∙ sym (none_at_first (formula_cells w) x)
  same_outcome (suc k) x r =
      outcome_by_cell (λ f. (run_cell (world_at u (table u k)) f).outcome) (formula_cells u) x
      ∙ ap (outcome_of (λ f. (run_cell (world_at u (table u k)) f).outcome)) (same_cell x r)
      ∙ elim (cell_at (formula_cells w) x) as (λ o. cell_at (formula_cells w) x ≡ o →
      outcome_of (λ f. (run_cell (world_at u (table u k)) f).outcome) o ≡ outcome_of (λ f. (run_cell (world_at w (table w k)) f).outcome) o) [
        | None ↦ λ e. refl
        | Some f ↦ λ e. ap (λ z. z.outcome) (same_run k (same_outcome k) x r f e)
      ] refl
      ∙ sym (outcome_by_cell (λ f. (run_cell (world_at w (table w k)) f).outcome) (formula_cells w) x)

  -- a reached cell has the same meaning in both
  pub same_meaning : (x : Cell) → Reaches w from x → meaning u x.0 x.1 ≡ meaning w x.0 x.1
  same_meaning x r =
      sym (later_same u x.0 x.1 (rounds w + rounds u) (omega arith))
      ∙ same_outcome (rounds w + rounds u) x r
      ∙ later_same w x.0 x.1 (rounds w + rounds u) (omega arith)

  -- and uses the same
  pub same_uses : (x : Cell) → Reaches w from x → uses_at u x ≡ uses_at w x
  same_uses x r =
      ap (uses_of u) (same_cell x r)
      ∙ elim (cell_at (formula_cells w) x) as (λ o. cell_at (formula_cells w) x ≡ o → uses_of u o ≡ uses_of w o) [
        | None ↦ λ e. refl
        | Some f ↦ λ e.
            let k = rounds w + rounds u in
            ap (λ t. (run_cell (world_at u t) f).uses) (sym (rounds_end u k (omega arith)))
            ∙ ap (λ z. z.uses) (same_run k (same_outcome k) x r f e)
            ∙ ap (λ t. (run_cell (world_at w t) f).uses) (rounds_end w k (omega arith))
      ] refl
