-- The rows after an object was made stand for the workbook with an object more.
use Rattle.std.proofs.Common.{◌≡◌, refl, sym, ap, ◌∙◌, subst, ℕ, ◌+◌, ◌<◌, Bool, true, false, List, [], ◌∷◌, ◌++◌, length, arith, Some, None, eq-eqb}
use Rattle.std.specs.Prelude.{◌==◌, ◌&&◌, if◌then◌else◌, map, slice_set, IsSome, position}
use Rattle.std.specs.List.{AllByRecursion}
use Rattle.std.specs.declared.cmp.Ordering.TheVariants.{Less}
use Rattle.std.specs.Ordering.{nat_cmp}
use Rattle.std.specs.Cmp.{nat_cmp_is}
use Rattle.std.proofs.lemmas.Bool.{eqb-true}
use Rattle.std.proofs.lemmas.List.{map-append, append-nil}
use Rattle.std.proofs.lemmas.List.Elements.{filter_map-append}
use Rattle.std.proofs.lemmas.Grind.{flat_map-append}
use Rattle.sheet_values.specs.Sorted.{insert}
use Rattle.sheet_values.specs.Order.{value_cmp}
use Rattle.sheet_values.specs.declared.value.Value.{Value}
use Rattle.sheet_values.specs.declared.value.Value.TheVariants.{Object}
use Rattle.sheet_columns.specs.Tree.{above_of, column_of, IsTree}
use Rattle.sheet_columns.specs.declared.tree.Column.TheVariants as column
use Rattle.sheet_columns.specs.declared.tree.Node.{Node}
use Rattle.sheet_state_rows.specs.Rows.{Table}
use Rattle.sheet_state_rows.specs.declared.row.Counters.{Counters}
use Rattle.sheet_state_rows.specs.declared.row.ObjectRow.{ObjectRow}
use Rattle.sheet_state_rows.specs.declared.row.SetRow.{SetRow}
use Rattle.sheet_meaning.specs.Changes.{with_object}
use Rattle.sheet_meaning.specs.Workbook.{object_at, column_in, set_in, children_in}
use Rattle.sheet_meaning.specs.WellFormed.{StateColumn, state_columns, stored_values, cell_count, IsWellFormed}
use Rattle.sheet_meaning.specs.declared.workbook.LiveObject.{LiveObject}
use Rattle.sheet_meaning.specs.declared.workbook.StoredCell.{StoredCell}
use Rattle.sheet_meaning.specs.declared.workbook.State.{State}
use Rattle.sheet_meaning.proofs.Members.{IsIn, both_true}
use Rattle.sheet_state.specs.Births.{new_cell, new_extent, new_object_row, set_at, born, born_items, formula_columns, firsts}
use Rattle.sheet_state.specs.Stored.{schema_of, book, object_columns, extents_of, IsMoment, AreChanged}
use Rattle.sheet_state.specs.Limits.{full_of, first_full}
use Rattle.sheet_state.specs.Rows.{cells_in, objects_in, state_of, moment, object_cmp, is_set, IsSound}
use Rattle.sheet_state.proofs.Lookups.{FirstAt, first_read, set_found, none_at}
use Rattle.sheet_state.proofs.SetRows.{row, cells_set, first_set, rising_set, drawn_set}
use Rattle.sheet_state.proofs.Existing.{key, extent_there, row_there, some_of}
use Rattle.sheet_state.proofs.WithSet.{all_mono, other_set, keys_kept}
use Rattle.sheet_state.proofs.WithObject.{rising_push, object_well_formed}
use Rattle.sheet_state.proofs.Newborn.{set_front, children_more, born_changed}
use Rattle.sheet_state.proofs.Bearing.{states_rise, extents_rise, grown_rising, grown_drawn, live_cells, live_extents, no_children, insert_last}
use Rattle.sheet_state.proofs.Bearing.{live_drawn, cells_drawn, objects_counted, cells_counted, values_counted, empty_extent}
use Rattle.sheet_state.proofs.Back.{all_push}
use Rattle.sheet_state.proofs.Starting.{empty_keys}

module _ (nodes : List Node) (t : Table) (sound : IsSound t) (c p place : ℕ) (r : SetRow) (f : FirstAt (is_set p c) t.extents place r) (counters : Counters)
    (next : counters.next ≡ t.counters.next + 1) where
  abbrev n : ℕ
  n = t.counters.next

  abbrev scs : List StateColumn
  scs = state_columns (schema_of nodes) c

  abbrev cols : List ℕ
  cols = object_columns nodes c

  abbrev set : List Value
  set = insert value_cmp (Object n) (set_at t.extents place)

  abbrev changed : List SetRow
  changed = slice_set t.extents place (row p c set)

  abbrev after : Table
  after = born nodes t place c p counters

  abbrev s : State
  s = state_of t

  abbrev s' : State
  s' = with_object (schema_of nodes) s c p

  pub state_born : state_of after ≡ s'
  state_born =
      ap (λ (xs : List LiveObject). record { objects = xs; cells = cells_in (t.cells ++ map (new_cell n) scs); next = counters.next })
      (filter_map-append _ t.objects (new_object_row n c p ∷ []))
      ∙ ap (λ (xs : List StoredCell). record { objects = s'.objects; cells = xs; next = counters.next }) (filter_map-append _ t.cells (map (new_cell n) scs)
      ∙ ap (λ l. cells_in t.cells ++ l) (live_cells n scs))
      ∙ ap (λ (m : ℕ). record { objects = s'.objects; cells = s'.cells; next = m }) next

  held : set_at t.extents place ≡ r.set
  held = ap (λ (q : SetRow). q.set) (first_read (is_set p c) t.extents place r _ f)

  drawn_objects : AllByRecursion (λ (x : LiveObject). x.number < n) (objects_in t.objects)
  drawn_objects = live_drawn n t.objects sound.objects_drawn

  set_is : set ≡ children_in (objects_in t.objects) p c ++ Object n ∷ []
  set_is =
      ap (insert value_cmp (Object n)) (held ∙ sym (set_found p c t.extents place r f) ∙ sound.children p c)
      ∙ insert_last n (objects_in t.objects) p c drawn_objects

  children : (o k : ℕ) (b : Bool) → (c == k && o == p) ≡ b →
      set_in (cells_in changed) o k ≡ children_in (objects_in t.objects) o k ++ (if b then Object n ∷ [] else [])
  children o k true e =
      let h = both_true (c == k) (o == p) e in
      let same_column = eqb-true c k h.0 in
      let same_object = eqb-true o p h.1 in
      ap (λ m. set_in (cells_in changed) m k) same_object
      ∙ ap (λ j. set_in (cells_in changed) p j) (sym same_column)
      ∙ set_found p c changed place (row p c set) (first_set p c set t.extents place r f)
      ∙ set_is
      ∙ ap (λ j. children_in (objects_in t.objects) p j ++ Object n ∷ []) same_column
      ∙ ap (λ m. children_in (objects_in t.objects) m k ++ Object n ∷ []) (sym same_object)
  children o k false e =
      ap (λ l. set_in l o k) (cells_set p c set t.extents place r sound.extents f)
      ∙ other_set p c set o k (λ h. let t1 : (c == k && o == p) ≡ true = ap (λ x. x && o == p) (eq-eqb c k (sym h.1)) ∙ eq-eqb o p h.0 in
      cc) (cells_in t.extents)
      ∙ sound.children o k
      ∙ sym (append-nil (children_in (objects_in t.objects) o k))

  pub sound_born : counters.objects ≡ t.counters.objects + 1 → counters.values ≡ t.counters.values + length (firsts scs) → IsSound after
  sound_born objects values =
      let more : (m : ℕ) → m < n + 1 → m < counters.next = λ m h. omega arith in
      let grown = values_counted nodes s c p in
      let before = sound.counted_values in
      let before_objects = sound.counted_objects in
      let as_state = ap (λ (u : State). stored_values u.cells) state_born in
      let as_objects = ap (λ (u : State). length u.objects) state_born in
      let one_more = objects_counted nodes s c p in
      record {
        objects = rising_push object_cmp t.objects (new_object_row n c p) sound.objects
            (all_mono (λ (x : ObjectRow). x.number < n) (λ (x : ObjectRow). nat_cmp x.number n ≡ Less) (λ x h. sym (nat_cmp_is x.number n Less h)) t.objects
            sound.objects_drawn);
        cells = grown_rising (λ (k : StateColumn). k.number) (new_cell n) n (λ k. refl) (λ k. refl) t.cells scs sound.cells sound.cells_drawn
            (states_rise nodes c);
        extents = grown_rising (λ (k : ℕ). k) (new_extent n) n (λ k. refl) (λ k. refl) changed cols (rising_set p c set t.extents place r f sound.extents)
            (drawn_set p c n set t.extents place r f sound.extents_drawn) (extents_rise nodes c);
        objects_drawn =
            all_push (λ (x : ObjectRow). x.number < counters.next) t.objects (new_object_row n c p)
            (all_mono (λ (x : ObjectRow). x.number < n) (λ (x : ObjectRow). x.number < counters.next) (λ x h. more x.number (omega arith)) t.objects
            sound.objects_drawn)
            (more n (omega arith));
        cells_drawn = all_mono (λ (x : SetRow). x.object < n + 1) (λ (x : SetRow). x.object < counters.next) (λ x h. more x.object h)
            (t.cells ++ map (new_cell n) scs)
            (grown_drawn (λ (k : StateColumn). k.number) (new_cell n) n (λ k. refl) (λ k. refl) t.cells scs sound.cells_drawn);
        extents_drawn = all_mono (λ (x : SetRow). x.object < n + 1) (λ (x : SetRow). x.object < counters.next) (λ x h. more x.object h)
            (changed ++ map (new_extent n) cols)
            (grown_drawn (λ (k : ℕ). k) (new_extent n) n (λ k. refl) (λ k. refl) changed cols (drawn_set p c n set t.extents place r f sound.extents_drawn));
        children = λ o k.
            ap (λ l. set_in l o k) (filter_map-append _ changed (map (new_extent n) cols) ∙ ap (λ l. cells_in changed ++ l) (live_extents n cols))
            ∙ set_front (cells_in changed) (map (empty_extent n) cols) o k (no_children n cols o k)
            ∙ children o k (c == k && o == p) refl
            ∙ sym (children_more (objects_in t.objects) (record { number = n; column = c; parent = Some p }) o k)
            ∙ ap (λ l. children_in l o k) (sym (filter_map-append _ t.objects (new_object_row n c p ∷ [])));
        counted_objects = omega (arith, objects, before_objects, one_more, as_objects);
        counted_values = omega (arith, values, before, grown, as_state);
      }

  module _ (tree : IsTree nodes) (m : IsMoment nodes (moment t)) (live : IsSome (object_at s.objects p))
      (under : column_in (object_at s.objects p) ≡ above_of nodes c) (is : column_of nodes c ≡ Some column.Object) where
    extents_born : map key (cells_in after.extents) ≡ extents_of nodes s'.objects
    extents_born =
        ap (map key) (filter_map-append _ changed (map (new_extent n) cols) ∙ ap (λ l. cells_in changed ++ l) (live_extents n cols))
        ∙ map-append key (cells_in changed) (map (empty_extent n) cols)
        ∙ ap (λ l. l ++ map key (map (empty_extent n) cols)) (ap (map key) (cells_set p c set t.extents place r sound.extents f)
        ∙ keys_kept p c set (cells_in t.extents) ∙ m.extents)
        ∙ ap (λ l. extents_of nodes s.objects ++ l) (empty_keys n cols ∙ sym (append-nil (map (λ (k : ℕ). (n, k)) cols)))
        ∙ sym (flat_map-append (λ (x : LiveObject). map (λ (k : ℕ). (x.number, k)) (object_columns nodes x.column)) s.objects
        (record { number = n; column = c; parent = Some p } ∷ []))

    pub moment_born : counters.cells ≡ t.counters.cells + (length scs + length (formula_columns nodes c)) → first_full (book nodes s') ≡ None →
        IsMoment nodes (moment after)
    moment_born cells room =
        let grown = cells_counted nodes s c p in
        let before = m.cells in
        record {
          well_formed = subst (λ u. IsWellFormed (book nodes u)) (sym state_born) (object_well_formed nodes tree s m.well_formed c p live under is room);
          extents = extents_born ∙ ap (λ (u : State). extents_of nodes u.objects) (sym state_born);
          cells = cells ∙ ap (λ k. k + (length scs + length (formula_columns nodes c))) before ∙ sym grown
              ∙ ap (λ u. cell_count (book nodes u)) (sym state_born);
        }

    pub changed_born : AreChanged s s' (born_items nodes n c p)
    changed_born = born_changed nodes s m.well_formed c p (cells_drawn n t.cells sound.cells_drawn) (states_rise nodes c)

-- the counters after say which limit is passed
pub full_born : (nodes : List Node) (t : Table) → IsSound t → IsMoment nodes (moment t) → (c p : ℕ) (counters : Counters) →
    counters.next ≡ t.counters.next + 1 → counters.objects ≡ t.counters.objects + 1 →
    counters.cells ≡ t.counters.cells + (length (state_columns (schema_of nodes) c) + length (formula_columns nodes c)) →
    counters.values ≡ t.counters.values + length (firsts (state_columns (schema_of nodes) c)) →
    full_of counters.objects counters.cells counters.values counters.next ≡ first_full (book nodes (with_object (schema_of nodes) (state_of t) c p))
full_born nodes t sound m c p counters next objects cells values =
    let s = state_of t in
    let s' = with_object (schema_of nodes) s c p in
    let scs = state_columns (schema_of nodes) c in
    let one_more = objects_counted nodes s c p in
    let before_objects = sound.counted_objects in
    let e1 : counters.objects ≡ length s'.objects = omega (arith, objects, one_more, before_objects) in
    let e2 : counters.cells ≡ cell_count (book nodes s') = cells ∙ ap (λ k. k + (length scs + length (formula_columns nodes c))) m.cells
    ∙ sym (cells_counted nodes s c p) in
    let e3 : counters.values ≡ stored_values s'.cells = values ∙ ap (λ k. k + length (firsts scs)) sound.counted_values ∙ sym (values_counted nodes s c p) in
    ap (λ a. full_of a counters.cells counters.values counters.next) e1
    ∙ ap (λ b. full_of (length s'.objects) b counters.values counters.next) e2
    ∙ ap (λ v. full_of (length s'.objects) (cell_count (book nodes s')) v counters.next) e3
    ∙ ap (full_of (length s'.objects) (cell_count (book nodes s')) (stored_values s'.cells)) next

-- an extent of a live object has a row
pub extent_found : (nodes : List Node) (t : Table) (c p : ℕ) → IsMoment nodes (moment t) → IsSome (object_at (state_of t).objects p) →
    column_in (object_at (state_of t).objects p) ≡ above_of nodes c → column_of nodes c ≡ Some column.Object → position (is_set p c) t.extents ≡ None → ⊥
extent_found nodes t c p m live under is none =
    let x = some_of (object_at (state_of t).objects p) live in
    let up : above_of nodes c ≡ Some x.0.column = sym under ∙ ap column_in x.1 in
    let there = extent_there nodes (state_of t) p c x.0 x.1 up is in
    row_there p c t.extents (subst (λ (l : List (ℕ × ℕ)). IsIn (p, c) l) (sym m.extents) there) (none_at (is_set p c) t.extents none)
