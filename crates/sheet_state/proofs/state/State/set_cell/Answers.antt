use Rattle.std.proofs.Common.{◌≡◌, true, false, ◌∙◌, refl, sym, ap, subst, arith, ℕ, ◌+◌, ◌-◌, ◌<◌, ◌≤◌, length, get_or, [], ◌∷◌, Some, None}
use Rattle.std.specs.Prelude.{position, slice_set, map, IsSome, List}
use Rattle.std.specs.List.{AllByRecursion}
use Rattle.std.proofs.lemmas.List.{map-append}
use Rattle.sheet_state_rows.specs.declared.row.Counters.{Counters}
use Rattle.sheet_state_rows.specs.declared.row.SetRow.{SetRow}
use Rattle.sheet_state_rows.specs.Rows.{with_cells, with_counters}
use Rattle.sheet_columns.specs.Tree.{above_of, column_of}
use Rattle.sheet_meaning.specs.Changes.{with_set}
use Rattle.sheet_meaning.specs.WellFormed.{HoldsKind, max_values}
use Rattle.sheet_meaning.specs.Workbook.{object_at, column_in, set_in}
use Rattle.sheet_meaning.specs.Formula.{sets_equal}
use Rattle.sheet_meaning.specs.declared.refusal.Which.TheVariants.{Values}
use Rattle.sheet_state.specs.Stored.{IsStored, IsMoment, AreChanged, book}
use Rattle.sheet_state.specs.Limits.{first_full}
use Rattle.sheet_state.specs.Places.{IsListedRow, IsListed}
use Rattle.sheet_state.specs.Rows.{is_set, moment, state_of, IsSound}
use Rattle.sheet_state.proofs.Back.{all_push}
use Rattle.sheet_state.proofs.Lookups.{FirstAt, first_at, first_read}
use Rattle.sheet_state.proofs.Setting.{cell_found, old_counted, counted_as, moment_after, full_after, room_after, after, sound_after, state_after, there, held}
use Rattle.sheet_state.proofs.Listed.{Grows, listed_grown, all_grown}
use Rattle.sheet_state.proofs.SetRows.{row, all_set}
use Rattle.sheet_state.proofs.WithSet.{none_changed, one_changed, sets_are, sets_same}
use Rattle.sheet_state.proofs.state.State.set_cell.Goals as goal

-- the row that was found
found : (rows cells : List SetRow) (o c place : ℕ) → rows ≡ cells → Some place ≡ position (is_set o c) rows → (r : SetRow) × FirstAt (is_set o c) cells place r
found rows cells o c place same is = first_at (is_set o c) cells place (ap (position (is_set o c)) (sym same) ∙ sym is)

-- how many values it held
old_length : (rows cells : List SetRow) (o c place n : ℕ) (d r : SetRow) → rows ≡ cells → FirstAt (is_set o c) cells place r →
    n ≡ length (get_or rows place d).set → n ≡ length r.set
old_length rows cells o c place n d r same f is =
    is ∙ ap (λ l. length (get_or l place d).set) same ∙ ap (λ (q : SetRow). length q.set) (first_read (is_set o c) cells place r d f)

pub unreachable-requires : goal.unreachable-requires
unreachable-requires c =
    let o = c.args.object in
    let k = c.args.column in
    let t = c.self.inside.tables.present in
    let nodes = c.args.columns.now in
    let v = sym c.self.view_is in
    let kept = subst (IsStored nodes) v c.requires.kept in
    cell_found nodes t o k c.args.set kept.present
    (subst (λ w. IsSome (object_at w.present.state.objects o)) v c.requires.live)
    (subst (λ w. column_in (object_at w.present.state.objects o) ≡ above_of nodes k) v c.requires.under)
    (subst (λ w. HoldsKind w.present.state (record { object = o; column = k; set = c.args.set }) (column_of nodes k)) v c.requires.typed)
    (ap (position (is_set o k)) (sym c.cells.ensures) ∙ sym c.in-None.ensures)

pub overflow_sub-others : goal.overflow_sub-others
overflow_sub-others c =
    let o = c.args.object in
    let k = c.args.column in
    let t = c.self.inside.tables.present in
    let f = found c.cells.result.now t.cells o k c.in-Some.place c.cells.ensures c.in-Some.ensures in
    let old = old_length c.cells-2.result.now t.cells o k c.in-Some.place c.len.result _ f.0 c.cells-2.ensures f.1 c.len.ensures.len in
    let counted = ap (λ (n : Counters). n.values) c.counters-counters.ensures in
    let less = old_counted t c.self.invariant.0 o k [] c.in-Some.place f.0 f.1 in
    omega (arith, old, counted, less)

pub returns-then-len-others-clause-full : goal.returns-then-len-others-clause-full
returns-then-len-others-clause-full c =
    let o = c.args.object in
    let k = c.args.column in
    let t = c.self.inside.tables.present in
    let nodes = c.args.columns.now in
    let kept = subst (IsStored nodes) (sym c.self.view_is) c.requires.kept in
    let f = found c.cells.result.now t.cells o k c.in-Some.place c.cells.ensures c.in-Some.ensures in
    let old = old_length c.cells-2.result.now t.cells o k c.in-Some.place c.len.result _ f.0 c.cells-2.ensures f.1 c.len.ensures.len in
    let values = ap (λ (n : Counters). n.values) c.counters-counters.ensures in
    let counted = counted_as t c.self.invariant.0 o k c.in-Some.place f.0 f.1 c.counters-counters.result.values c.len.result (length c.args.set) values old in
    let less = old_counted t c.self.invariant.0 o k [] c.in-Some.place f.0 f.1 in
    let many : max_values < c.counters-counters.result.values - c.len.result + length c.args.set =
    omega (arith, c.if-len-others.true, c.len-2.ensures.len, old, values, less) in
    subst (λ w. first_full (book nodes (with_set w.present.state o k c.args.set)) ≡ Some (Values, max_values)) c.self.view_is
    (full_after t c.self.invariant.0 o k c.args.set c.in-Some.place f.0 f.1 nodes kept.present _ counted many)

pub invariant_of-self : goal.invariant_of-self
invariant_of-self c =
    let old = c.self.inside.references in
    let more = c.note_all.new.self in
    let grows : Grows old more = record { kept = c.note_all.ensures.others } in (
      c.self.invariant.0,
      c.self.invariant.1,
      c.self.invariant.2,
      listed_grown old more grows c.self.inside.tables.present c.self.invariant.3,
      all_grown old more grows c.self.inside.tables.earlier c.self.invariant.4,
    )

pub invariant_of-self-in_err-put_row : goal.invariant_of-self-in_err-put_row
invariant_of-self-in_err-put_row c =
    let same = c.in_err-put_row.ensures.err in
    let old = c.self.inside.references in
    let more = c.note_all.new.self in
    let grows : Grows old more = record { kept = c.note_all.ensures.others } in
    subst (λ v. IsSound v.present × AllByRecursion IsSound v.earlier × (c.self.inside.nothing ≡ []) × IsListed more v.present × AllByRecursion (IsListed more)
    v.earlier) (sym same) (
      c.self.invariant.0,
      c.self.invariant.1,
      c.self.invariant.2,
      listed_grown old more grows c.self.inside.tables.present c.self.invariant.3,
      all_grown old more grows c.self.inside.tables.earlier c.self.invariant.4,
    )

row_at : (c : goal.In_ok-put_row) → (r : SetRow) × FirstAt (is_set c.args.object c.args.column) c.self.inside.tables.present.cells c.in-Some.place r
row_at c = found c.cells.result.now c.self.inside.tables.present.cells c.args.object c.args.column c.in-Some.place c.cells.ensures c.in-Some.ensures

values_are : (c : goal.In_ok-put_row) →
    c.counters-counters.result.values - c.len.result + c.len-3.result + length (row_at c).0.set ≡ c.self.inside.tables.present.counters.values + length
    c.args.set
unfolding row_at
values_are c =
    let f = row_at c in
    let old = old_length c.cells-2.result.now c.self.inside.tables.present.cells c.args.object c.args.column c.in-Some.place c.len.result _ f.0
    c.cells-2.ensures f.1 c.len.ensures.len in
    let values = ap (λ (n : Counters). n.values) c.counters-counters.ensures in
    let new : c.len-3.result ≡ length c.args.set = c.len-3.ensures.len in
    counted_as c.self.inside.tables.present c.self.invariant.0 c.args.object c.args.column c.in-Some.place f.0 f.1 c.counters-counters.result.values
    c.len.result c.len-3.result values old
    ∙ ap (λ n. c.self.inside.tables.present.counters.values + n) new

few_values : (c : goal.In_ok-put_row) → c.counters-counters.result.values - c.len.result + c.len-3.result ≤ max_values
few_values c =
    let t = c.self.inside.tables.present in
    let f = found c.cells.result.now t.cells c.args.object c.args.column c.in-Some.place c.cells.ensures c.in-Some.ensures in
    let old = old_length c.cells-2.result.now t.cells c.args.object c.args.column c.in-Some.place c.len.result _ f.0 c.cells-2.ensures f.1 c.len.ensures.len in
    let values = ap (λ (n : Counters). n.values) c.counters-counters.ensures in
    let kept = subst (IsStored c.args.columns.now) (sym c.self.view_is) c.requires.kept in
    let small = kept.present.well_formed.few_values in
    let counted = c.self.invariant.0.counted_values in
    omega (arith, c.if-len-others.false, c.len-2.ensures.len, c.len-3.ensures.len, values, small, counted)

made : (c : goal.In_ok-put_row) →
    c.put_row.new.tables.present ≡ after c.self.inside.tables.present c.self.invariant.0 c.args.object c.args.column c.args.set c.in-Some.place (row_at c).0
    (row_at c).1 (c.counters-counters.result.values - c.len.result + c.len-3.result)
made c =
    c.in_ok-put_row.ensures.present
    ∙ ap (λ (n : Counters).
    with_counters (with_cells c.self.inside.tables.present
    (slice_set c.self.inside.tables.present.cells c.in-Some.place (row c.args.object c.args.column c.args.set)))
    (record n { values = c.counters-counters.result.values - c.len.result + c.len-3.result })) c.counters-counters.ensures

pub invariant_of-self-2 : goal.invariant_of-self-2
invariant_of-self-2 c =
    let t = c.self.inside.tables.present in
    let old = c.self.inside.references in
    let more = c.note_all.new.self in
    let grows : Grows old more = record { kept = c.note_all.ensures.others } in
    let f = row_at c in (
      subst IsSound (sym (made c)) (sound_after t c.self.invariant.0 c.args.object c.args.column c.args.set c.in-Some.place f.0 f.1 _ (values_are c)),
      subst (AllByRecursion IsSound) (sym c.in_ok-put_row.ensures.earlier)
          (all_push IsSound c.self.inside.tables.earlier t c.self.invariant.1 c.self.invariant.0),
      c.self.invariant.2,
      subst (IsListed more) (sym (made c))
          (all_set (IsListedRow more) t.cells c.in-Some.place (row c.args.object c.args.column c.args.set) (listed_grown old more grows t c.self.invariant.3)
          (λ live n e. c.in_ok-note_all.ensures.noted n e)),
      subst (AllByRecursion (IsListed more)) (sym c.in_ok-put_row.ensures.earlier)
          (all_push (IsListed more) c.self.inside.tables.earlier t (all_grown old more grows c.self.inside.tables.earlier c.self.invariant.4)
          (listed_grown old more grows t c.self.invariant.3)),
    )

state_is : (c : goal.In_ok-put_row) → state_of c.put_row.new.tables.present ≡ with_set c.args.self.now.present.state c.args.object c.args.column c.args.set
state_is c =
    let t = c.self.inside.tables.present in
    let f = row_at c in
    ap state_of (made c)
    ∙ state_after t c.self.invariant.0 c.args.object c.args.column c.args.set c.in-Some.place f.0 f.1
    (c.counters-counters.result.values - c.len.result + c.len-3.result)
    ∙ ap (λ w. with_set w.present.state c.args.object c.args.column c.args.set) c.self.view_is

pub returns-clause-state : goal.returns-clause-state
returns-clause-state c = state_is c

pub returns-clause-changed : goal.returns-clause-changed
returns-clause-changed c =
    let o = c.args.object in
    let k = c.args.column in
    let t = c.self.inside.tables.present in
    let set = c.args.set in
    let f = row_at c in
    let s = c.args.self.now.present.state in
    let same : state_of t ≡ s = ap (λ w. w.present.state) c.self.view_is in
    let in_place : set_in (with_set s o k set).cells o k ≡ set =
    subst (λ u. set_in (with_set u o k set).cells o k ≡ set) same (there t c.self.invariant.0 o k set c.in-Some.place f.0 f.1) in
    let before : set_in s.cells o k ≡ (get_or c.cells-2.result.now c.in-Some.place c.index-cells-place.result).set =
    ap (λ u. set_in u.cells o k) (sym same)
    ∙ held t c.self.invariant.0 o k set c.in-Some.place f.0 f.1
    ∙ ap (λ (q : SetRow). q.set) (sym (first_read (is_set o k) t.cells c.in-Some.place f.0 c.index-cells-place.result f.1))
    ∙ ap (λ l. (get_or l c.in-Some.place c.index-cells-place.result).set) (sym c.cells-2.ensures) in
    subst (λ u. AreChanged s u c.in_ok-items.items) (sym (state_is c))
    (elim (sets_equal (set_in s.cells o k) set) as (λ b. sets_equal (set_in s.cells o k) set ≡ b → AreChanged s (with_set s o k set) c.in_ok-items.items) [
      | true ↦ λ e.
          let equal = sets_are (set_in s.cells o k) set e in
          subst (AreChanged s (with_set s o k set)) (sym (c.in_ok-items.ensures.same (sym before ∙ equal))) (none_changed s o k set in_place equal)
      | false ↦ λ e.
          let differs : set_in s.cells o k ≡ set → ⊥ = λ h. let tied : sets_equal (set_in s.cells o k) set ≡ true =
          subst (λ l. sets_equal (set_in s.cells o k) l ≡ true) h (sets_same (set_in s.cells o k)) in cc in
          subst (AreChanged s (with_set s o k set)) (sym (c.in_ok-items.ensures.differs (λ h. differs (before ∙ h)))) (one_changed s o k set in_place differs)
    ] refl)

pub returns-clause-room : goal.returns-clause-room
returns-clause-room c =
    let t = c.self.inside.tables.present in
    let f = row_at c in
    let nodes = c.args.columns.now in
    let kept = subst (IsStored nodes) (sym c.self.view_is) c.requires.kept in
    subst (λ w. first_full (book nodes (with_set w.present.state c.args.object c.args.column c.args.set)) ≡ None) c.self.view_is
    (room_after t c.self.invariant.0 c.args.object c.args.column c.args.set c.in-Some.place f.0 f.1 nodes kept.present _ (values_are c) (few_values c))

pub returns-clause-kept : goal.returns-clause-kept
returns-clause-kept c =
    let t = c.self.inside.tables.present in
    let o = c.args.object in
    let k = c.args.column in
    let f = row_at c in
    let nodes = c.args.columns.now in
    let v = sym c.self.view_is in
    let kept = subst (IsStored nodes) v c.requires.kept in
    let typed = subst (λ w. HoldsKind w.present.state (record { object = o; column = k; set = c.args.set }) (column_of nodes k)) v c.requires.typed in
    record {
      present = subst (λ u. IsMoment nodes (moment u)) (sym (made c))
          (moment_after t c.self.invariant.0 o k c.args.set c.in-Some.place f.0 f.1 nodes kept.present _ typed (values_are c) (few_values c));
      earlier = subst (λ ts. AllByRecursion (IsMoment nodes) (map moment ts)) (sym c.in_ok-put_row.ensures.earlier)
          (subst (AllByRecursion (IsMoment nodes)) (sym (map-append moment c.self.inside.tables.earlier (t ∷ [])))
          (all_push (IsMoment nodes) (map moment c.self.inside.tables.earlier) (moment t) kept.earlier kept.present));
    }
