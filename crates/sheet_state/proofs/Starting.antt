-- The rows of the root alone.
use Rattle.std.proofs.Common.{◌≡◌, refl, sym, ap, ◌∙◌, subst, ℕ, ◌+◌, ◌<◌, ◌≤◌, Bool, true, false, cond, List, [], ◌∷◌, length, arith, None, length-append}
use Rattle.std.specs.Prelude.{◌==◌, ◌&&◌, map}
use Rattle.std.specs.List.{AllByRecursion}
use Rattle.std.proofs.lemmas.List.{append-nil, length-map}
use Rattle.sheet_values.specs.declared.value.Value.TheVariants.{Object}
use Rattle.sheet_columns.specs.Tree.{IsTree}
use Rattle.sheet_columns.specs.declared.tree.Node.{Node}
use Rattle.sheet_state_rows.specs.Rows.{Table}
use Rattle.sheet_state_rows.specs.declared.row.Counters.{Counters}
use Rattle.sheet_state_rows.specs.declared.row.ObjectRow.{ObjectRow}
use Rattle.sheet_state_rows.specs.declared.row.SetRow.{SetRow}
use Rattle.sheet_meaning.specs.Start.{start_state}
use Rattle.sheet_meaning.specs.Workbook.{set_in, children_in, cells_of}
use Rattle.sheet_meaning.proofs.Starting.{starts_are_well_formed}
use Rattle.sheet_meaning.specs.WellFormed.{StateColumn, state_columns, stored_values, cell_count, IsWellFormed}
use Rattle.sheet_meaning.specs.declared.workbook.LiveObject.{LiveObject}
use Rattle.sheet_meaning.specs.declared.workbook.StoredCell.{StoredCell}
use Rattle.sheet_meaning.specs.declared.workbook.State.{State}
use Rattle.sheet_state.specs.Births.{new_cell, new_extent, with_rows, formula_columns, firsts}
use Rattle.sheet_state.specs.Stored.{schema_of, book, object_columns, extents_of, IsMoment}
use Rattle.sheet_state.specs.Rows.{state_of, moment, IsSound}
use Rattle.sheet_state.proofs.Existing.{key}
use Rattle.sheet_state.proofs.Schemas.{formulas_there}
use Rattle.sheet_state.proofs.Newborn.{newborn}
use Rattle.sheet_state.proofs.Bearing.{states_rise, extents_rise, grown_rising, grown_drawn, live_cells, live_extents, no_children, first_values}
use Rattle.sheet_state.proofs.Bearing.{formulas_counted, empty_extent}

root_row : ObjectRow
root_row = record { number = 0; column = 0; parent = None; live = true }

newborn_keys : (n : ℕ) (ks : List StateColumn) → map key (map (newborn n) ks) ≡ map (λ (k : StateColumn). (n, k.number)) ks
newborn_keys n [] = refl
newborn_keys n (k ∷ ks) = ap (λ l. (n, k.number) ∷ l) (newborn_keys n ks)

pub empty_keys : (n : ℕ) (ks : List ℕ) → map key (map (empty_extent n) ks) ≡ map (λ (k : ℕ). (n, k)) ks
empty_keys n [] = refl
empty_keys n (k ∷ ks) = ap (λ l. (n, k) ∷ l) (empty_keys n ks)

module _ (nodes : List Node) (tree : IsTree nodes) (counters : Counters) where
  abbrev scs : List StateColumn
  scs = state_columns (schema_of nodes) 0

  abbrev cols : List ℕ
  cols = object_columns nodes 0

  abbrev pub first : Table
  first = with_rows (record { objects = record { number = 0; column = 0; parent = None; live = true } ∷ []; cells = []; extents = []; counters = counters }) 0
      scs cols

  abbrev s : State
  s = start_state (schema_of nodes)

  pub state_first : counters.next ≡ 1 → state_of first ≡ s
  state_first next =
      ap (λ (xs : List StoredCell). record { objects = s.objects; cells = xs; next = counters.next }) (live_cells 0 scs)
      ∙ ap (λ (n : ℕ). record { objects = s.objects; cells = s.cells; next = n }) next

  no_child : (o k : ℕ) → children_in s.objects o k ≡ []
  no_child o k = at (0 == k)
    where
      at : (b : Bool) → map (λ (x : LiveObject). Object x.number) (cond (b && false) (record { number = 0; column = 0; parent = None } ∷ []) []) ≡ []
      at true = refl
      at false = refl

  pub sound_first : counters.next ≡ 1 → counters.objects ≡ 1 → counters.values ≡ length (firsts scs) → IsSound first
  sound_first next objects values = record {
    objects = (tt, tt);
    cells = grown_rising (λ (k : StateColumn). k.number) (new_cell 0) 0 (λ k. refl) (λ k. refl) [] scs tt tt (states_rise nodes 0);
    extents = grown_rising (λ (k : ℕ). k) (new_extent 0) 0 (λ k. refl) (λ k. refl) [] cols tt tt (extents_rise nodes 0);
    objects_drawn = (omega (arith, next), tt);
    cells_drawn = subst (λ n. AllByRecursion (λ (r : SetRow). r.object < n) (map (new_cell 0) scs)) (sym next)
        (grown_drawn (λ (k : StateColumn). k.number) (new_cell 0) 0 (λ k. refl) (λ k. refl) [] scs tt);
    extents_drawn = subst (λ n. AllByRecursion (λ (r : SetRow). r.object < n) (map (new_extent 0) cols)) (sym next)
        (grown_drawn (λ (k : ℕ). k) (new_extent 0) 0 (λ k. refl) (λ k. refl) [] cols tt);
    children = λ o k. ap (λ l. set_in l o k) (live_extents 0 cols) ∙ no_children 0 cols o k ∙ sym (no_child o k);
    counted_objects = objects;
    counted_values = values ∙ sym (first_values 0 scs) ∙ ap stored_values (sym (live_cells 0 scs));
  }

  cells_first : cell_count (book nodes s) ≡ length scs + length (formula_columns nodes 0)
  cells_first =
      let states = length-append {A = ℕ × ℕ} (map (λ (k : StateColumn). (0, k.number)) scs) [] in
      let as_many = length-map {B = ℕ × ℕ} scs (λ (k : StateColumn). (0, k.number)) in
      let formulas = length-append (cells_of (schema_of nodes) 0 0) [] in
      let counted = formulas_counted nodes 0 0 in
      omega (arith, states, as_many, formulas, counted)

  pub moment_first : counters.next ≡ 1 → counters.cells ≡ length scs + length (formula_columns nodes 0) → counters.cells ≤ 1000 → length (firsts scs) ≤ 1000 →
      IsMoment nodes (moment first)
  moment_first next cells few_cells few_values =
      let counted = cells_first in
      let values = first_values 0 scs in
      let well : IsWellFormed (book nodes s) = starts_are_well_formed (schema_of nodes) tree (formulas_there nodes) in
      record {
        well_formed = subst (λ u. IsWellFormed (book nodes u)) (sym (state_first next)) well;
        extents = ap (map key) (live_extents 0 cols) ∙ empty_keys 0 cols ∙ sym (append-nil (map (λ (k : ℕ). (0, k)) cols))
            ∙ ap (λ (u : State). extents_of nodes u.objects) (sym (state_first next));
        cells = cells ∙ sym counted ∙ ap (λ u. cell_count (book nodes u)) (sym (state_first next));
      }
