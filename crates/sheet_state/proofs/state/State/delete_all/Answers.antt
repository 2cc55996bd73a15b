use Rattle.std.proofs.Common.{◌≡◌, ◌∙◌, sym, ap, subst, ℕ, List, [], ◌∷◌}
use Rattle.std.specs.Prelude.{map}
use Rattle.std.specs.List.{filter_map, AllByRecursion}
use Rattle.std.proofs.lemmas.List.{map-append}
use Rattle.sheet_state_references.specs.Below.{NeverFalls, Descends, AreFamilies, has}
use Rattle.sheet_values.specs.Sorted.{IsRising}
use Rattle.sheet_meaning.specs.Changes.{without}
use Rattle.sheet_meaning.specs.Formula.{object_in}
use Rattle.sheet_state.specs.Deaths.{rid_of}
use Rattle.sheet_state.specs.Stored.{IsStored, IsMoment, AreChanged}
use Rattle.sheet_state.specs.Places.{IsListed}
use Rattle.sheet_state.specs.Removals.{without_all, AreLive}
use Rattle.sheet_state.specs.Rows.{moment, state_of, objects_in, object_cmp, IsSound}
use Rattle.sheet_state.proofs.Back.{all_push}
use Rattle.sheet_state.proofs.Families.{only, small, may_go, all_removed}
use Rattle.sheet_state.proofs.Listed.{cells_swept}
use Rattle.sheet_state.proofs.Relatives.{descends}
use Rattle.sheet_state.proofs.Rid.{MayGo, state_rid, sound_rid, moment_rid}
use Rattle.sheet_state.proofs.Told.{rid_changed}
use Rattle.sheet_state.proofs.Underneath.{never_falls}
use Rattle.sheet_state.proofs.state.State.delete_all.Goals as goal

pub live_of-requires : goal.live_of-requires
live_of-requires c = subst (λ rows. IsRising object_cmp rows) (sym c.objects.ensures) c.self.invariant.0.objects

pub families_of-requires-clause-order : goal.families_of-requires-clause-order
families_of-requires-clause-order c = subst NeverFalls (sym c.extents.ensures) (never_falls c.self.inside.tables.present.extents c.self.invariant.0.extents)

pub families_of-requires-clause-descends : goal.families_of-requires-clause-descends
families_of-requires-clause-descends c =
    subst Descends (sym c.extents.ensures)
    (descends c.args.columns.now c.self.inside.tables.present c.self.invariant.0
    (subst (IsStored c.args.columns.now) (sym c.self.view_is) c.requires.kept).present)

pub places_of-requires-clause-kept : goal.places_of-requires-clause-kept
places_of-requires-clause-kept c = (c.args.columns.now, (subst (IsStored c.args.columns.now) (sym c.self.view_is) c.requires.kept).present)

pub places_of-requires-clause-only : goal.places_of-requires-clause-only
places_of-requires-clause-only c =
    let t = c.self.inside.tables.present in
    let kept = subst (IsStored c.args.columns.now) (sym c.self.view_is) c.requires.kept in
    let starts = c.in_ok-starts.starts.keys in
    only c.args.columns.now t c.self.invariant.0 kept.present c.args.objects.now c.requires.not_root starts
    (subst (λ rows. AreLive (objects_in rows) c.args.objects.now starts) c.objects.ensures c.in_ok-starts.ensures) c.in_ok-doomed.doomed
    (subst (λ rows. AreFamilies rows (λ (n : ℕ). has n starts) c.in_ok-doomed.doomed) c.extents.ensures c.in_ok-doomed.ensures)

pub places_of-requires-clause-small : goal.places_of-requires-clause-small
places_of-requires-clause-small c =
    let t = c.self.inside.tables.present in
    let kept = subst (IsStored c.args.columns.now) (sym c.self.view_is) c.requires.kept in
    let starts = c.in_ok-starts.starts.keys in
    small c.args.columns.now t c.self.invariant.0 kept.present c.args.objects.now c.requires.not_root starts
    (subst (λ rows. AreLive (objects_in rows) c.args.objects.now starts) c.objects.ensures c.in_ok-starts.ensures) c.in_ok-doomed.doomed
    (subst (λ rows. AreFamilies rows (λ (n : ℕ). has n starts) c.in_ok-doomed.doomed) c.extents.ensures c.in_ok-doomed.ensures)

made : (c : goal.After-drop-doomed-inside-2) → c.take_away.new.tables.present ≡ rid_of c.args.columns.now c.in_ok-doomed.doomed c.self.inside.tables.present
made c = c.in_ok-items.ensures.present

abbrev ns : (c : goal.After-drop-doomed-inside-2) → List ℕ
ns c = filter_map object_in c.in_ok-doomed.doomed

goes : (c : goal.After-drop-doomed-inside-2) → MayGo c.self.inside.tables.present c.in_ok-doomed.doomed (ns c)
goes c =
    let t = c.self.inside.tables.present in
    let kept = subst (IsStored c.args.columns.now) (sym c.self.view_is) c.requires.kept in
    let starts = c.in_ok-starts.starts.keys in
    may_go c.args.columns.now t c.self.invariant.0 kept.present c.args.objects.now c.requires.not_root starts
    (subst (λ rows. AreLive (objects_in rows) c.args.objects.now starts) c.objects.ensures c.in_ok-starts.ensures) c.in_ok-doomed.doomed
    (subst (λ rows. AreFamilies rows (λ (n : ℕ). has n starts) c.in_ok-doomed.doomed) c.extents.ensures c.in_ok-doomed.ensures)

pub invariant_of-self-2 : goal.invariant_of-self-2
invariant_of-self-2 c =
    let t = c.self.inside.tables.present in
    let d = c.in_ok-doomed.doomed in
    let refs = c.self.inside.references in
    let kept = subst (IsStored c.args.columns.now) (sym c.self.view_is) c.requires.kept in (
      subst IsSound (sym (made c)) (sound_rid c.args.columns.now t c.self.invariant.0 kept.present d (ns c) (goes c)),
      subst (AllByRecursion IsSound) (sym c.in_ok-items.ensures.earlier)
          (all_push IsSound c.self.inside.tables.earlier t c.self.invariant.1 c.self.invariant.0),
      c.self.invariant.2,
      subst (IsListed refs) (sym (made c)) (cells_swept refs d t.cells c.self.invariant.3),
      subst (AllByRecursion (IsListed refs)) (sym c.in_ok-items.ensures.earlier)
          (all_push (IsListed refs) c.self.inside.tables.earlier t c.self.invariant.4 c.self.invariant.3),
    )

-- what is left of the state that was
left_is : (c : goal.After-drop-doomed-inside-2) → without_all (state_of c.self.inside.tables.present) c.args.objects.now ≡ without
    (state_of c.self.inside.tables.present) (ns c)
left_is c =
    let t = c.self.inside.tables.present in
    let kept = subst (IsStored c.args.columns.now) (sym c.self.view_is) c.requires.kept in
    let starts = c.in_ok-starts.starts.keys in
    all_removed c.args.columns.now t c.self.invariant.0 kept.present c.args.objects.now c.requires.not_root starts
    (subst (λ rows. AreLive (objects_in rows) c.args.objects.now starts) c.objects.ensures c.in_ok-starts.ensures) c.in_ok-doomed.doomed
    (subst (λ rows. AreFamilies rows (λ (n : ℕ). has n starts) c.in_ok-doomed.doomed) c.extents.ensures c.in_ok-doomed.ensures)

state_is : (c : goal.After-drop-doomed-inside-2) → state_of c.take_away.new.tables.present ≡ without_all c.args.self.now.present.state c.args.objects.now
state_is c =
    let t = c.self.inside.tables.present in
    let kept = subst (IsStored c.args.columns.now) (sym c.self.view_is) c.requires.kept in
    ap state_of (made c)
    ∙ state_rid c.args.columns.now t c.self.invariant.0 kept.present c.in_ok-doomed.doomed (ns c) (goes c)
    ∙ sym (left_is c)
    ∙ ap (λ v. without_all v.present.state c.args.objects.now) c.self.view_is

pub returns-clause-state : goal.returns-clause-state
returns-clause-state c = state_is c

pub returns-clause-changed : goal.returns-clause-changed
returns-clause-changed c =
    let t = c.self.inside.tables.present in
    let set = c.args.objects.now in
    let kept = subst (IsStored c.args.columns.now) (sym c.self.view_is) c.requires.kept in
    subst (λ u. AreChanged c.args.self.now.present.state u c.in_ok-items.items) (sym (state_is c))
    (subst (λ w. AreChanged w.present.state (without_all w.present.state set) c.in_ok-items.items) c.self.view_is
    (subst (λ u. AreChanged (state_of t) u c.in_ok-items.items) (sym (left_is c))
    (subst (AreChanged (state_of t) (without (state_of t) (ns c))) (sym c.in_ok-items.ensures.items)
    (rid_changed c.args.columns.now t c.self.invariant.0 kept.present c.in_ok-doomed.doomed (ns c) (goes c)))))

pub returns-clause-kept : goal.returns-clause-kept
returns-clause-kept c =
    let t = c.self.inside.tables.present in
    let nodes = c.args.columns.now in
    let kept = subst (IsStored nodes) (sym c.self.view_is) c.requires.kept in
    record {
      present = subst (λ u. IsMoment nodes (moment u)) (sym (made c))
          (moment_rid nodes t c.self.invariant.0 kept.present c.in_ok-doomed.doomed (ns c) (goes c));
      earlier = subst (λ ts. AllByRecursion (IsMoment nodes) (map moment ts)) (sym c.in_ok-items.ensures.earlier)
          (subst (AllByRecursion (IsMoment nodes)) (sym (map-append moment c.self.inside.tables.earlier (t ∷ [])))
          (all_push (IsMoment nodes) (map moment c.self.inside.tables.earlier) (moment t) kept.earlier kept.present));
    }
