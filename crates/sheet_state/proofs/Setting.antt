-- The rows after a state cell got a set.
use Rattle.std.proofs.Common.{◌≡◌, sym, ap, ◌∙◌, subst, ℕ, ◌+◌, ◌-◌, ◌<◌, ◌≤◌, List, [], length, arith, Some, None}
use Rattle.std.specs.Prelude.{position, IsSome, slice_set, nat_lt, if◌then◌else◌}
use Rattle.std.proofs.lemmas.Bool.{le-ltb, lt-ltb}
use Rattle.sheet_values.specs.declared.value.Value.{Value}
use Rattle.sheet_columns.specs.Tree.{column_of, above_of}
use Rattle.sheet_columns.specs.declared.tree.Node.{Node}
use Rattle.sheet_state_rows.specs.Rows.{Table, with_cells, with_counters}
use Rattle.sheet_state_rows.specs.declared.row.SetRow.{SetRow}
use Rattle.sheet_meaning.specs.Changes.{with_set}
use Rattle.sheet_meaning.specs.Workbook.{set_in, object_at, column_in}
use Rattle.sheet_meaning.specs.WellFormed.{HoldsKind, IsWellFormed, stored_values, max_objects, max_cells, max_values, max_number}
use Rattle.sheet_meaning.specs.declared.refusal.Which.TheVariants.{Objects, Cells, Values, Numbers}
use Rattle.sheet_state.specs.Stored.{book, IsMoment}
use Rattle.sheet_state.specs.Limits.{full_of, first_full}
use Rattle.sheet_state.specs.Rows.{cells_in, state_of, moment, is_set, IsSound}
use Rattle.sheet_state.proofs.Lookups.{FirstAt, none_at, set_found}
use Rattle.sheet_state.proofs.SetRows.{row, cells_set, first_set, rising_set, drawn_set, values_set}
use Rattle.sheet_meaning.proofs.Members.{IsIn}
use Rattle.sheet_state.proofs.Existing.{cell_there, row_there, some_of, state_column}
use Rattle.sheet_state.proofs.WithSet.{set_well_formed}

-- where only the values may be too many
pub values_full : (a b v n : ℕ) → a ≤ max_objects → b ≤ max_cells → max_values < v → full_of a b v n ≡ Some (Values, max_values)
values_full a b v n few_objects few_cells many =
    ap (λ t. if t then Some (Objects, max_objects) else if nat_lt max_cells b then Some (Cells, max_cells) else if nat_lt max_values v
    then Some (Values, max_values) else if nat_lt (max_number + 1) n then Some (Numbers, max_number) else None) (le-ltb max_objects a few_objects)
    ∙ ap (λ t. if t then Some (Cells, max_cells) else if nat_lt max_values v then Some (Values, max_values) else if nat_lt (max_number + 1) n
    then Some (Numbers, max_number) else None) (le-ltb max_cells b few_cells)
    ∙ ap (λ t. if t then Some (Values, max_values) else if nat_lt (max_number + 1) n then Some (Numbers, max_number) else None) (lt-ltb max_values v many)

pub none_full : (a b v n : ℕ) → a ≤ max_objects → b ≤ max_cells → v ≤ max_values → n ≤ max_number + 1 → full_of a b v n ≡ None
none_full a b v n few_objects few_cells few_values few_numbers =
    ap (λ t. if t then Some (Objects, max_objects) else if nat_lt max_cells b then Some (Cells, max_cells) else if nat_lt max_values v
    then Some (Values, max_values) else if nat_lt (max_number + 1) n then Some (Numbers, max_number) else None) (le-ltb max_objects a few_objects)
    ∙ ap (λ t. if t then Some (Cells, max_cells) else if nat_lt max_values v then Some (Values, max_values) else if nat_lt (max_number + 1) n
    then Some (Numbers, max_number) else None) (le-ltb max_cells b few_cells)
    ∙ ap (λ t. if t then Some (Values, max_values) else if nat_lt (max_number + 1) n then Some (Numbers, max_number) else None) (le-ltb max_values v few_values)
    ∙ ap (λ t. if t then Some (Numbers, max_number) else None) (le-ltb (max_number + 1) n few_numbers)

module _ (t : Table) (sound : IsSound t) (o c : ℕ) (set : List Value) (k : ℕ) (r : SetRow) (f : FirstAt (is_set o c) t.cells k r) where
  abbrev pub rows : List SetRow
  rows = slice_set t.cells k (row o c set)

  abbrev pub after : ℕ → Table
  after v = with_counters (with_cells t rows) (record t.counters { values = v })

  pub cells_after : cells_in rows ≡ (with_set (state_of t) o c set).cells
  cells_after = cells_set o c set t.cells k r sound.cells f

  pub state_after : (v : ℕ) → state_of (after v) ≡ with_set (state_of t) o c set
  state_after v = ap (λ l. record (state_of t) { cells = l }) cells_after

  -- how many values are stored
  pub values_after : stored_values (with_set (state_of t) o c set).cells + length r.set ≡ t.counters.values + length set
  values_after =
      let e = values_set o c set t.cells k r f in
      let same = ap stored_values cells_after in
      let counted = sound.counted_values in
      omega (arith, e, same, counted)

  -- the old set was counted
  pub old_counted : length r.set ≤ t.counters.values
  old_counted =
      let e = values_set o c [] t.cells k r f in
      let counted = sound.counted_values in
      omega (arith, e, counted)

  pub sound_after : (v : ℕ) → v + length r.set ≡ t.counters.values + length set → IsSound (after v)
  sound_after v counted =
      let e = values_set o c set t.cells k r f in
      let before = sound.counted_values in
      record {
        objects = sound.objects;
        cells = rising_set o c set t.cells k r f sound.cells;
        extents = sound.extents;
        objects_drawn = sound.objects_drawn;
        cells_drawn = drawn_set o c t.counters.next set t.cells k r f sound.cells_drawn;
        extents_drawn = sound.extents_drawn;
        children = sound.children;
        counted_objects = sound.counted_objects;
        counted_values = omega (arith, e, before, counted);
      }

  pub there : set_in (with_set (state_of t) o c set).cells o c ≡ set
  there = ap (λ l. set_in l o c) (sym cells_after) ∙ set_found o c rows k (row o c set) (first_set o c set t.cells k r f)

  pub held : set_in (state_of t).cells o c ≡ r.set
  held = set_found o c t.cells k r f

  module _ (nodes : List Node) (m : IsMoment nodes (moment t)) where
    pub moment_after : (v : ℕ) → HoldsKind (state_of t) (record { object = o; column = c; set = set }) (column_of nodes c) →
        v + length r.set ≡ t.counters.values + length set → v ≤ max_values → IsMoment nodes (moment (after v))
    moment_after v typed counted few =
        let e = values_after in
        let small : stored_values (with_set (state_of t) o c set).cells ≤ max_values = omega (arith, e, counted, few) in
        record {
          well_formed = subst (λ s. IsWellFormed (book nodes s)) (sym (state_after v)) (set_well_formed nodes (state_of t) o c set m.well_formed typed small);
          extents = m.extents;
          cells = m.cells;
        }

    pub full_after : (v : ℕ) → v + length r.set ≡ t.counters.values + length set → max_values < v →
        first_full (book nodes (with_set (state_of t) o c set)) ≡ Some (Values, max_values)
    full_after v counted many =
        let e = values_after in
        values_full _ _ (stored_values (with_set (state_of t) o c set).cells) _ m.well_formed.few_objects m.well_formed.few_cells
        (omega (arith, e, counted, many))

    pub room_after : (v : ℕ) → v + length r.set ≡ t.counters.values + length set → v ≤ max_values →
        first_full (book nodes (with_set (state_of t) o c set)) ≡ None
    room_after v counted few =
        let e = values_after in
        none_full _ _ (stored_values (with_set (state_of t) o c set).cells) _ m.well_formed.few_objects m.well_formed.few_cells (omega (arith, e, counted, few))
        m.well_formed.few_numbers

-- a state cell of a live object has a row
pub cell_found : (nodes : List Node) (t : Table) (o c : ℕ) (set : List Value) → IsMoment nodes (moment t) → IsSome (object_at (state_of t).objects o) →
    column_in (object_at (state_of t).objects o) ≡ above_of nodes c →
    HoldsKind (state_of t) (record { object = o; column = c; set = set }) (column_of nodes c) → position (is_set o c) t.cells ≡ None → ⊥
cell_found nodes t o c set m live under typed none =
    let x = some_of (object_at (state_of t).objects o) live in
    let column = state_column (state_of t) (record { object = o; column = c; set = set }) (column_of nodes c) typed in
    let up : above_of nodes c ≡ Some x.0.column = sym under ∙ ap column_in x.1 in
    let there = cell_there nodes (state_of t) o c x.0 x.1 up column.0 column.1 column.2 column.3 in
    row_there o c t.cells (subst (λ l. IsIn (o, c) l) (sym m.well_formed.cells) there) (none_at (is_set o c) t.cells none)

-- the values after, as they are counted
pub counted_as : (t : Table) (sound : IsSound t) (o c : ℕ) (k : ℕ) (r : SetRow) (f : FirstAt (is_set o c) t.cells k r) (values old new : ℕ) →
    values ≡ t.counters.values → old ≡ length r.set → (values - old + new) + length r.set ≡ t.counters.values + new
counted_as t sound o c k r f values old new e g =
    let less = old_counted t sound o c [] k r f in
    omega (arith, e, g, less)
