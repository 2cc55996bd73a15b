use Rattle.std.proofs.Common.{◌≡◌, ◌∙◌, sym, ap, subst, ℕ, ◌+◌, length, [], ◌∷◌, None}
use Rattle.std.specs.Prelude.{position, map, IsSome, List}
use Rattle.std.specs.List.{AllByRecursion}
use Rattle.std.proofs.lemmas.List.{map-append}
use Rattle.sheet_columns.specs.Tree.{above_of}
use Rattle.sheet_columns.specs.declared.tree.Node.{Node}
use Rattle.sheet_state_rows.specs.declared.row.Counters.{Counters}
use Rattle.sheet_state_rows.specs.declared.row.SetRow.{SetRow}
use Rattle.sheet_state_rows.specs.Rows.{Table}
use Rattle.sheet_meaning.specs.Changes.{with_object}
use Rattle.sheet_meaning.specs.WellFormed.{state_columns}
use Rattle.sheet_meaning.specs.Workbook.{object_at, column_in}
use Rattle.sheet_state.specs.Births.{formula_columns, firsts}
use Rattle.sheet_state.specs.Stored.{IsStored, IsMoment, AreChanged, book, schema_of}
use Rattle.sheet_state.specs.Limits.{first_full, full_of, Refuses}
use Rattle.sheet_state.specs.Places.{IsListed}
use Rattle.sheet_state.specs.Rows.{is_set, moment, state_of, IsSound}
use Rattle.sheet_state.proofs.Back.{all_push}
use Rattle.sheet_state.proofs.Listed.{cells_born}
use Rattle.sheet_state.proofs.Lookups.{FirstAt, first_at}
use Rattle.sheet_state.proofs.SetRows.{row_read}
use Rattle.sheet_state.proofs.Born.{full_born, state_born, sound_born, moment_born, changed_born, extent_found}
use Rattle.sheet_state.proofs.state.State.new_object.Goals as goal

-- the counters after
abbrev after : Counters → ℕ → ℕ → Counters
after n cells values = record { next = n.next + 1; objects = n.objects + 1; cells = n.cells + cells; values = n.values + values }

full_is : (nodes : List Node) (t : Table) → IsSound t → IsMoment nodes (moment t) → (column parent : ℕ) (n : Counters) (cells values : ℕ) → n ≡ t.counters →
    cells ≡ length (state_columns (schema_of nodes) column) + length (formula_columns nodes column) →
    values ≡ length (firsts (state_columns (schema_of nodes) column)) →
    full_of (n.objects + 1) (n.cells + cells) (n.values + values) (n.next + 1) ≡ first_full
    (book nodes (with_object (schema_of nodes) (state_of t) column parent))
full_is nodes t sound m column parent n cells values e ce ve =
    full_born nodes t sound m column parent (after n cells values)
    (ap (λ (x : Counters). x.next + 1) e)
    (ap (λ (x : Counters). x.objects + 1) e)
    (ap (λ (x : Counters). x.cells + cells) e ∙ ap (λ k. t.counters.cells + k) ce)
    (ap (λ (x : Counters). x.values + values) e ∙ ap (λ k. t.counters.values + k) ve)

pub returns-in-Some-clause-full : goal.returns-in-Some-clause-full
returns-in-Some-clause-full c =
    let t = c.self.inside.tables.present in
    let nodes = c.args.columns.now in
    let kept = subst (IsStored nodes) (sym c.self.view_is) c.requires.kept in
    let w = c.weight_of-weight.ensures in
    let full = full_is nodes t c.self.invariant.0 kept.present c.args.column c.args.parent c.counters-counters.result c.weight_of-weight.result.0
    c.weight_of-weight.result.1 c.counters-counters.ensures w.cells w.values in
    subst (λ v. Refuses (first_full (book nodes (with_object (schema_of nodes) v.present.state c.args.column c.args.parent))) c.in-Some.refusal) c.self.view_is
    (subst (λ f. Refuses f c.in-Some.refusal) full c.in-Some.ensures.cases)

pub unreachable-requires : goal.unreachable-requires
unreachable-requires c =
    let t = c.self.inside.tables.present in
    let nodes = c.args.columns.now in
    let p = c.args.parent in
    let v = sym c.self.view_is in
    let kept = subst (IsStored nodes) v c.requires.kept in
    extent_found nodes t c.args.column p kept.present
    (subst (λ w. IsSome (object_at w.present.state.objects p)) v c.requires.live)
    (subst (λ w. column_in (object_at w.present.state.objects p) ≡ above_of nodes c.args.column) v c.requires.under)
    c.requires.object_column
    (ap (position (is_set p c.args.column)) (sym c.extents.ensures) ∙ sym c.in-None.ensures)

pub create-requires-clause-row : goal.create-requires-clause-row
create-requires-clause-row c =
    let p = c.args.parent in
    let k = c.args.column in
    let xs = c.self.inside.tables.present.extents in
    let place = c.in-Some-set_place.place in
    let f = first_at (is_set p k) xs place (ap (position (is_set p k)) (sym c.extents.ensures) ∙ sym c.in-Some-set_place.ensures) in
    row_read p k xs place f.0 f.1

row_at : (c : goal.In_ok-items) → (r : SetRow) × FirstAt (is_set c.args.parent c.args.column) c.self.inside.tables.present.extents c.in-Some-set_place.place r
row_at c = first_at (is_set c.args.parent c.args.column) c.self.inside.tables.present.extents c.in-Some-set_place.place
    (ap (position (is_set c.args.parent c.args.column)) (sym c.extents.ensures) ∙ sym c.in-Some-set_place.ensures)

next_is : (c : goal.In_ok-items) → c.counters-counters.result.next + 1 ≡ c.self.inside.tables.present.counters.next + 1
next_is c = ap (λ (x : Counters). x.next + 1) c.counters-counters.ensures

cells_are : (c : goal.In_ok-items) →
    c.counters-counters.result.cells + c.weight_of-weight.result.0 ≡ c.self.inside.tables.present.counters.cells +
    (length (state_columns (schema_of c.args.columns.now) c.args.column) + length (formula_columns c.args.columns.now c.args.column))
cells_are c = ap (λ (x : Counters). x.cells + c.weight_of-weight.result.0) c.counters-counters.ensures
    ∙ ap (λ k. c.self.inside.tables.present.counters.cells + k) c.weight_of-weight.ensures.cells

values_are : (c : goal.In_ok-items) →
    c.counters-counters.result.values + c.weight_of-weight.result.1 ≡ c.self.inside.tables.present.counters.values + length
    (firsts (state_columns (schema_of c.args.columns.now) c.args.column))
values_are c = ap (λ (x : Counters). x.values + c.weight_of-weight.result.1) c.counters-counters.ensures
    ∙ ap (λ k. c.self.inside.tables.present.counters.values + k) c.weight_of-weight.ensures.values

pub invariant_of-self-2 : goal.invariant_of-self-2
invariant_of-self-2 c =
    let t = c.self.inside.tables.present in
    let f = row_at c in (
      subst IsSound (sym c.in_ok-items.ensures.present)
          (sound_born c.args.columns.now t c.self.invariant.0 c.args.column c.args.parent c.in-Some-set_place.place f.0 f.1
          (after c.counters-counters.result c.weight_of-weight.result.0 c.weight_of-weight.result.1) (next_is c)
          (ap (λ (x : Counters). x.objects + 1) c.counters-counters.ensures) (values_are c)),
      subst (AllByRecursion IsSound) (sym c.in_ok-items.ensures.earlier)
          (all_push IsSound c.self.inside.tables.earlier t c.self.invariant.1 c.self.invariant.0),
      c.self.invariant.2,
      subst (IsListed c.self.inside.references) (sym c.in_ok-items.ensures.present)
          (cells_born c.self.inside.references c.args.columns.now c.weight_of-weight.ensures.tree t.counters.next c.args.column t.cells c.self.invariant.3),
      subst (AllByRecursion (IsListed c.self.inside.references)) (sym c.in_ok-items.ensures.earlier)
          (all_push (IsListed c.self.inside.references) c.self.inside.tables.earlier t c.self.invariant.4 c.self.invariant.3),
    )

state_is : (c : goal.In_ok-items) →
    state_of c.create.new.tables.present ≡ with_object (schema_of c.args.columns.now) c.args.self.now.present.state c.args.column c.args.parent
state_is c =
    let t = c.self.inside.tables.present in
    let f = row_at c in
    ap state_of c.in_ok-items.ensures.present
    ∙ state_born c.args.columns.now t c.self.invariant.0 c.args.column c.args.parent c.in-Some-set_place.place f.0 f.1
    (after c.counters-counters.result c.weight_of-weight.result.0 c.weight_of-weight.result.1) (next_is c)
    ∙ ap (λ v. with_object (schema_of c.args.columns.now) v.present.state c.args.column c.args.parent) c.self.view_is

room : (c : goal.In_ok-items) →
    first_full (book c.args.columns.now (with_object (schema_of c.args.columns.now) (state_of c.self.inside.tables.present) c.args.column c.args.parent)) ≡ None
room c =
    let t = c.self.inside.tables.present in
    let nodes = c.args.columns.now in
    let kept = subst (IsStored nodes) (sym c.self.view_is) c.requires.kept in
    let w = c.weight_of-weight.ensures in
    sym (full_is nodes t c.self.invariant.0 kept.present c.args.column c.args.parent c.counters-counters.result c.weight_of-weight.result.0
    c.weight_of-weight.result.1 c.counters-counters.ensures w.cells w.values)
    ∙ c.in_default.ensures.cases

pub returns-clause-state : goal.returns-clause-state
returns-clause-state c = state_is c

pub returns-clause-room : goal.returns-clause-room
returns-clause-room c =
    subst (λ v. first_full (book c.args.columns.now (with_object (schema_of c.args.columns.now) v.present.state c.args.column c.args.parent)) ≡ None)
    c.self.view_is (room c)

pub returns-clause-changed : goal.returns-clause-changed
returns-clause-changed c =
    let t = c.self.inside.tables.present in
    let nodes = c.args.columns.now in
    let p = c.args.parent in
    let k = c.args.column in
    let f = row_at c in
    let v = sym c.self.view_is in
    let kept = subst (IsStored nodes) v c.requires.kept in
    subst (λ u. AreChanged c.args.self.now.present.state u c.in_ok-items.items) (sym (state_is c))
    (subst (λ w. AreChanged w.present.state (with_object (schema_of nodes) w.present.state k p) c.in_ok-items.items) c.self.view_is
    (subst (AreChanged (state_of t) (with_object (schema_of nodes) (state_of t) k p)) (sym c.in_ok-items.ensures.items)
    (changed_born nodes t c.self.invariant.0 k p c.in-Some-set_place.place f.0 f.1
    (after c.counters-counters.result c.weight_of-weight.result.0 c.weight_of-weight.result.1) (next_is c) c.weight_of-weight.ensures.tree kept.present
    (subst (λ w. IsSome (object_at w.present.state.objects p)) v c.requires.live)
    (subst (λ w. column_in (object_at w.present.state.objects p) ≡ above_of nodes k) v c.requires.under)
    c.requires.object_column)))

pub returns-clause-kept : goal.returns-clause-kept
returns-clause-kept c =
    let t = c.self.inside.tables.present in
    let nodes = c.args.columns.now in
    let p = c.args.parent in
    let k = c.args.column in
    let f = row_at c in
    let v = sym c.self.view_is in
    let kept = subst (IsStored nodes) v c.requires.kept in
    record {
      present =
          subst (λ u. IsMoment nodes (moment u)) (sym c.in_ok-items.ensures.present)
          (moment_born nodes t c.self.invariant.0 k p c.in-Some-set_place.place f.0 f.1
          (after c.counters-counters.result c.weight_of-weight.result.0 c.weight_of-weight.result.1) (next_is c) c.weight_of-weight.ensures.tree
          kept.present
          (subst (λ w. IsSome (object_at w.present.state.objects p)) v c.requires.live)
          (subst (λ w. column_in (object_at w.present.state.objects p) ≡ above_of nodes k) v c.requires.under)
          c.requires.object_column
          (cells_are c)
          (room c));
      earlier = subst (λ ts. AllByRecursion (IsMoment nodes) (map moment ts)) (sym c.in_ok-items.ensures.earlier)
          (subst (AllByRecursion (IsMoment nodes)) (sym (map-append moment c.self.inside.tables.earlier (t ∷ [])))
          (all_push (IsMoment nodes) (map moment c.self.inside.tables.earlier) (moment t) kept.earlier kept.present));
    }
