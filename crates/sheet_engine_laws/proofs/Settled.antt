-- Cells that wait for one another never settle; results that are found are final.
use Rattle.std.proofs.Common.{◌≡◌, refl, sym, ap, ◌∙◌, subst, inl, inr, ⊎_elim, ℕ, zero, suc, true, List, [], ◌∷◌, arith}
use Rattle.std.specs.Prelude.{◌⊎◌, Some, None, is_some}
use Rattle.std.specs.List.{filter_map, list_all}
use Rattle.sheet_values.specs.declared.value.Value.{Value}
use Rattle.sheet_values.specs.declared.value.Value.TheVariants.{Object}
use Rattle.sheet_columns.specs.declared.fault.Place.{Place}
use Rattle.sheet_columns.specs.declared.fault.Place.TheVariants as place
use Rattle.sheet_columns.specs.declared.item.Item.TheVariants.{Live, Up, Extent, Stored}
use Rattle.sheet_columns.specs.declared.formula.Core.{Core}
use Rattle.sheet_meaning.specs.declared.run.Use.{Use}
use Rattle.sheet_meaning.specs.declared.run.Use.TheVariants as used
use Rattle.sheet_meaning.specs.Run.{Outcome, none}
use Rattle.sheet_meaning.specs.Formula.{World, Variables, run}
use Rattle.sheet_meaning.specs.Workbook.{FormulaCell, formula_cells, world}
use Rattle.sheet_meaning.specs.Rounds.{outcome_in, world_at, run_cell, table, outcome_after, meaning, rounds, settled_world, settled_run, cell_in}
use Rattle.sheet_meaning.specs.Reads.{AgreeAt, Agree}
use Rattle.sheet_meaning.specs.Support.{Cell, has_cell, cell_at, uses_of, cells_read}
use Rattle.sheet_meaning.proofs.Members.{IsIn, from_filter_map, within_filter_map, both_true}
use Rattle.sheet_meaning.proofs.Cells.{in_has, has_in}
use Rattle.sheet_meaning.proofs.Below.{IsBelow, run_below}
use Rattle.sheet_meaning.proofs.Tracks.{uses_suffice}
use Rattle.sheet_meaning.proofs.Alike.{outcome_of, outcome_by_cell, none_at_first, below_meaning}
use Rattle.sheet_meaning.proofs.Settling.{later_same}
use Rattle.sheet_engine_laws.specs.Blocked.{ReadsOne, AreBlocked, BlockedAreCycles}
use Rattle.sheet_engine_laws.specs.Chains.{Chained, LastReads, ChainsAreCycles, worked_out, MeaningsAreWorkedOut}
use Rattle.sheet_engine_laws.specs.Found.{Found, world_found, AreSettled, cells_in, AllFound, FoundSettle, NeededAreRead}
use Rattle.sheet_meaning.specs.Told.{or_none}
use Rattle.sheet_engine_laws.proofs.Strict.{IsNoneAt, strict}
use Rattle.sheet_meaning.specs.declared.run.Run.{Run}
use Rattle.sheet_meaning.specs.declared.workbook.Workbook.{Workbook}

-- a cell's meaning is what its formula comes to over the meanings of all cells
pub meaning_of_cell : (w : Workbook) (x : Cell) → meaning w x.0 x.1 ≡ outcome_of (λ f. (run_cell (settled_world w) f).outcome) (cell_at (formula_cells w) x)
meaning_of_cell w x =
    sym (later_same w x.0 x.1 (suc (rounds w)) (omega arith))
    ∙ outcome_by_cell (λ f. (run_cell (settled_world w) f).outcome) (formula_cells w) x

-- some used cell has no outcome in the first of two worlds, or they agree at all uses
pub record NoneUsed (w : World) (us : List Use) : Type 0 where
  pub which : Use
  pub among : IsIn which us
  pub unsettled : IsNoneAt w which

module _ (b : Workbook) (t u : ℕ → ℕ → Outcome (List Value)) (h : (o c : ℕ) → IsBelow (t o c) (u o c)) where
  here : (x : Use) → IsNoneAt (world b t) x ⊎ AgreeAt (world b t) (world b u) x
  here (used.Read (Live o)) = inr refl
  here (used.Read (Up o)) = inr refl
  here (used.Read (Extent o c)) = inr refl
  here (used.Read (Stored o c)) = inr refl
  here (used.Cell o c) = ⊎_elim (λ e. inl e) (λ e. inr (sym e)) (h o c)

  none_or_agree : (us : List Use) → NoneUsed (world b t) us ⊎ Agree (world b t) (world b u) us
  none_or_agree [] = inr tt
  none_or_agree (x ∷ us) =
      ⊎_elim
      (λ n. inl (record { which = x; among = inl refl; unsettled = n }))
      (λ a. ⊎_elim (λ (k : NoneUsed (world b t) us). inl (record { which = k.which; among = inr k.among; unsettled = k.unsettled })) (λ r. inr (a, r))
      (none_or_agree us))
      (here x)

  -- an expression has no outcome in the first world, or comes to the same in the second
  none_or_same : (p : Place) (e : Core) (v : Variables) → ((run e (world b t) p v).outcome ≡ none) ⊎ (run e (world b u) p v ≡ run e (world b t) p v)
  none_or_same p e v =
      ⊎_elim
      (λ (k : NoneUsed (world b t) (run e (world b t) p v).uses). inl (strict (world b t) p e v k.which k.among k.unsettled))
      (λ a. inr (uses_suffice (world b t) (world b u) p v e a))
      (none_or_agree (run e (world b t) p v).uses)

cell_use : (us : List Use) (y : Cell) → IsIn y (filter_map cell_in us) → IsIn (used.Cell y.0 y.1) us
cell_use us y h = let f = from_filter_map cell_in us y h in subst (λ x. IsIn x us) (same f.0 f.2) f.1
  where
    same : (x : Use) → cell_in x ≡ Some y → x ≡ used.Cell y.0 y.1
    same (used.Read i) e = cc
    same (used.Cell o c) e = let f : (o, c) ≡ y = cc in ap (λ (z : Cell). used.Cell z.0 z.1) f

module _ (w : Workbook) (cells : List Cell) (blocked : AreBlocked w cells) where
  -- a cell of them that a formula uses over the meanings of all cells
  record Waits (f : FormulaCell) : Type 0 where
    cell : Cell
    among : has_cell cells cell ≡ true
    used_there : IsIn (used.Cell cell.0 cell.1) (run_cell (settled_world w) f).uses

  waits : (x : Cell) → has_cell cells x ≡ true → (f : FormulaCell) → cell_at (formula_cells w) x ≡ Some f → Waits f
  waits x h f e =
      let r = blocked x h in
      record {
        cell = r.cell;
        among = r.among;
        used_there = cell_use _ r.cell (subst (λ o. IsIn r.cell (filter_map cell_in (uses_of w o))) e (has_in (cells_read w x) r.cell r.read));
      }

  -- in a round where none of them has an outcome, a formula that waits for one comes to none
  in_round : (k : ℕ) → ((y : Cell) → has_cell cells y ≡ true → outcome_after w k y.0 y.1 ≡ none) → (f : FormulaCell) → Waits f →
      (run_cell (world_at w (table w k)) f).outcome ≡ none
  in_round k so_far f r =
      ⊎_elim
      (λ n. n)
      (λ same. strict (world_at w (table w k)) (place.Cell f.object f.column) f.core ((Object f.object ∷ []) ∷ []) (used.Cell r.cell.0 r.cell.1)
      (subst (λ (z : Run (List Value)). IsIn (used.Cell r.cell.0 r.cell.1) z.uses) same r.used_there) (so_far r.cell r.among))
      (none_or_same w (outcome_in (formula_cells w) (table w k)) (outcome_in (formula_cells w) (table w (rounds w))) (λ o c. below_meaning w o c k)
      (place.Cell f.object f.column) f.core ((Object f.object ∷ []) ∷ []))

  never : (k : ℕ) (x : Cell) → has_cell cells x ≡ true → outcome_after w k x.0 x.1 ≡ none
  never zero x h = none_at_first (formula_cells w) x
  never (suc k) x h =
      outcome_by_cell (λ f. (run_cell (world_at w (table w k)) f).outcome) (formula_cells w) x
      ∙ elim (cell_at (formula_cells w) x) as (λ o. cell_at (formula_cells w) x ≡ o → outcome_of (λ f. (run_cell (world_at w (table w k)) f).outcome) o ≡ none) [
        | None ↦ λ e. refl
        | Some f ↦ λ e. in_round k (λ y m. never k y m) f (waits x h f e)
      ] refl

pub blocked_are_cycles : BlockedAreCycles
blocked_are_cycles w cells blocked x h = never w cells blocked (rounds w) x h

module _ (w : Workbook) (found : Found) (settled : AreSettled w found) where
  below_found : (o c : ℕ) → IsBelow (or_none (found o c)) (meaning w o c)
  below_found o c =
      elim (found o c) as (λ r. found o c ≡ r → IsBelow (or_none r) (meaning w o c)) [
        | None ↦ λ e. inl refl
        | Some r ↦ λ e. inr (sym (settled o c r e))
      ] refl

  module _ (e : Core) (p : Place) (v : Variables) where
    agree_found : (us : List Use) → AllFound found (cells_in us) → Agree (world_found w found) (settled_world w) us
    agree_found [] h = tt
    agree_found (used.Read (Live o) ∷ us) h = (refl, agree_found us h)
    agree_found (used.Read (Up o) ∷ us) h = (refl, agree_found us h)
    agree_found (used.Read (Extent o c) ∷ us) h = (refl, agree_found us h)
    agree_found (used.Read (Stored o c) ∷ us) h = (refl, agree_found us h)
    agree_found (used.Cell o c ∷ us) h =
        let b = both_true (is_some (found o c)) (list_all (λ (x : Cell). is_some (found x.0 x.1)) (cells_in us)) h in
        (at_cell o c b.0, agree_found us b.1)
      where
        at_cell : (o c : ℕ) → is_some (found o c) ≡ true → or_none (found o c) ≡ meaning w o c
        at_cell o c s =
            elim (found o c) as (λ r. found o c ≡ r → is_some r ≡ true → or_none r ≡ meaning w o c) [
              | None ↦ λ e t. cc
              | Some r ↦ λ e t. settled o c r e
            ] refl s

    pub found_settle : AllFound found (cells_in (run e (world_found w found) p v).uses) → run e (world_found w found) p v ≡ settled_run w e p v
    found_settle h = sym (uses_suffice (world_found w found) (settled_world w) p v e (agree_found (run e (world_found w found) p v).uses h))

    pub needed_read : (x : Cell) → has_cell (cells_in (run e (world_found w found) p v).uses) x ≡ true → has_cell (cells_in (settled_run w e p v).uses) x ≡ true
    needed_read x h =
        in_has _ x
        ((within_filter_map cell_in _ _ (run_below w (λ o c. or_none (found o c)) (outcome_in (formula_cells w) (table w (rounds w))) below_found p e
        v).uses).each x (has_in _ x h))

pub found_results_settle : FoundSettle
found_results_settle w found e p v settled h = found_settle w found settled e p v h

pub needed_are_read : NeededAreRead
needed_are_read w found e p v x settled h = needed_read w found settled e p v x h

-- each of the started cells from a place on reads one of all
each_reads : (w : Workbook) (all cells : List Cell) (y : Cell) → ((z : Cell) → IsIn z cells → IsIn z all) → IsIn y all → Chained w cells → LastReads w cells y →
    (x : Cell) → IsIn x cells → ReadsOne w all x
each_reads w all [] y within among chained last x h = absurd h
each_reads w all (x ∷ []) y within among chained last z h =
    ⊎_elim
    (λ e. record { cell = y; among = in_has all y among; read = subst (λ k. has_cell (cells_read w k) y ≡ true) (sym e) last })
    (λ k. absurd k)
    h
each_reads w all (x ∷ next ∷ cells) y within among chained last z h =
    ⊎_elim
    (λ e. record {
      cell = next;
      among = in_has all next (within next (inr (inl refl)));
      read =
          subst (λ k. has_cell (cells_read w k) next ≡ true) (sym e) chained.0;
    })
    (λ k. each_reads w all (next ∷ cells) y (λ v i. within v (inr i)) among chained.1 last z k)
    h

pub chains_are_cycles : ChainsAreCycles
chains_are_cycles w cells y chained last among x h =
    blocked_are_cycles w cells (λ z i. each_reads w cells cells y (λ v k. k) (has_in cells y among) chained last z (has_in cells z i)) x h

pub meanings_are_worked_out : MeaningsAreWorkedOut
meanings_are_worked_out w x =
    meaning_of_cell w x
    ∙ elim (cell_at (formula_cells w) x) as (λ o. outcome_of (λ f. (run_cell (settled_world w) f).outcome) o ≡ worked_out w o) [ None ↦ refl | Some f ↦ refl ]
