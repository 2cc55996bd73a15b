use Rattle.std.proofs.Common.{◌≡◌, ◌∙◌, sym, ap, ℕ, length, get_or, List, Option, Some, None, Result, Ok, Err, false}
use Rattle.std.specs.Prelude.{position, if◌then◌else◌, ◌==◌, OnOk}
use Rattle.sheet_state_rows.specs.declared.row.ObjectRow.{ObjectRow}
use Rattle.sheet_state_rows.specs.declared.row.SetRow.{SetRow}
use Rattle.sheet_meaning.specs.Workbook.{object_at}
use Rattle.sheet_meaning.specs.declared.workbook.LiveObject.{LiveObject}
use Rattle.sheet_meaning.proofs.Members.{both_true}
use Rattle.sheet_state.specs.Places.{Adds, IsHomeOf}
use Rattle.sheet_state.specs.Rows.{is_object, is_set, object_of, objects_in}
use Rattle.sheet_state.proofs.Adding.{none_added, fewer}
use Rattle.sheet_state.proofs.Lookups.{first_at, none_at, first_read, first_passes, object_found, object_missing}
use Rattle.sheet_state.proofs.places.add_home.Goals as goal

abbrev none : ObjectRow
none = record { number = 0; column = 0; parent = None; live = false }

-- the object of a row that was found
there : (rows : List ObjectRow) (o place : ℕ) (x : LiveObject) → Some place ≡ position (is_object o) rows → object_at (objects_in rows) o ≡ Some x →
    object_of (get_or rows place none) ≡ x
there rows o place x is at =
    let f = first_at (is_object o) rows place (sym is) in
    let live = (both_true f.0.live (f.0.number == o) (first_passes (is_object o) rows place f.0 f.1)).0 in
    let same : Some (object_of f.0) ≡ Some x = ap (λ b. if b then Some (object_of f.0) else None) (sym live) ∙ object_found o rows place f.0 f.1 ∙ at in
    let found : object_of f.0 ≡ x = cc in
    ap object_of (first_read (is_object o) rows place f.0 none f.1) ∙ found

on_ok : (A E : Type 0) (P Q : Type 0) (r : Result A E) → (P → Q) → OnOk r P → OnOk r Q
on_ok A E P Q (Ok x) f h = f h
on_ok A E P Q (Err e) f h = tt

pub returns-in_default : goal.returns-in_default
returns-in_default c =
    let o = c.args.object in
    let rows = c.args.objects.now in
    let missing = object_missing o rows (none_at (is_object o) rows (sym c.in_default.ensures)) in
    none_added (IsHomeOf rows c.args.extents.now o) (length c.args.extents.now) c.args.places.now.keys (λ k h. let there = h.2 in cc)

pub returns-in-Some-parent : goal.returns-in-Some-parent
returns-in-Some-parent c =
    let o = c.args.object in
    let rows = c.args.objects.now in
    let extents = c.args.extents.now in
    let row = get_or rows c.in-Some.place none in
    let parent = c.in-Some-parent.parent in
    on_ok _ _ (Adds (λ k. position (is_set parent row.column) extents ≡ Some k) (length extents) c.args.places.now.keys c.add_set.new.places.keys)
    (Adds (IsHomeOf rows extents o) (length extents) c.args.places.now.keys c.add_set.new.places.keys) c.add_set.result
    (fewer (λ k. position (is_set parent row.column) extents ≡ Some k) (IsHomeOf rows extents o) (length extents) c.args.places.now.keys
    c.add_set.new.places.keys (λ k h. home rows extents o c.in-Some.place parent k h.0 h.1 (there rows o c.in-Some.place h.1 c.in-Some.ensures h.2)
    c.in-Some-parent.is h.3 h.4))
    c.add_set.ensures
  where
    home : (rows : List ObjectRow) (extents : List SetRow) (o place parent k p : ℕ) (x : LiveObject) → object_of (get_or rows place none) ≡ x →
        (get_or rows place none).parent ≡ Some parent → x.parent ≡ Some p → position (is_set p x.column) extents ≡ Some k →
        position (is_set parent (get_or rows place none).column) extents ≡ Some k
    home rows extents o place parent k p x is up e at =
        let same : Some parent ≡ Some p = sym up ∙ ap (λ (y : LiveObject). y.parent) is ∙ e in
        let number : parent ≡ p = cc in
        ap (λ q. position (is_set q (get_or rows place none).column) extents) number ∙ ap (λ (y : LiveObject). position (is_set p y.column) extents) is ∙ at

pub returns-in-None : goal.returns-in-None
returns-in-None c =
    let o = c.args.object in
    let rows = c.args.objects.now in
    none_added (IsHomeOf rows c.args.extents.now o) (length c.args.extents.now) c.args.places.now.keys
    (λ k h. alone h.0 (ap (λ (y : LiveObject). y.parent) (sym (there rows o c.in-Some.place h.1 c.in-Some.ensures h.2)) ∙ c.in-None.is) h.3)
  where
    alone : (p : ℕ) {q : Option ℕ} → q ≡ None → q ≡ Some p → ⊥
    alone p e f = let clash : None ≡ Some p = sym e ∙ f in cc
