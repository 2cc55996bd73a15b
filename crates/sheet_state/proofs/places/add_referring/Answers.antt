use Rattle.std.proofs.Common.{◌≡◌, ◌∙◌, sym, ap, subst, ◌+◌, take, length, get_or, arith, refl, eq-eqb}
use Rattle.std.specs.Ordering.{is_eq}
use Rattle.std.proofs.lemmas.List.Folds.{list_any_at}
use Rattle.sheet_values.specs.Sets.{contains}
use Rattle.sheet_state_references.proofs.Numbers.{ties}
use Rattle.sheet_values.specs.Order.{value_cmp}
use Rattle.sheet_values.specs.declared.value.Value.TheVariants.{Object}
use Rattle.sheet_state.specs.Places.{Adds, RefersTo}
use Rattle.sheet_state.proofs.Adding.{Among, OfObject, none_added, each_none, each_all, for_object, for_any, value_more}
use Rattle.sheet_state.proofs.places.add_referring.Goals as goal
use Rattle.sheet_state.proofs.places.add_referring.Goals.{in-Object+in_ok-add_cells_to, in_default}

pub loop-value-preserved : goal.loop-value-preserved
loop-value-preserved c =
    let rows = c.args.rows.now in
    let vs = c.as_slice-value-items.result.now in
    let i = c.loop-value.value-index in
    let v = c.value-item.result in
    let w = RefersTo rows c.args.references.now in
    let old = c.loop-value.places.keys in
    elim c.match-value.branch [
      | in-Object+in_ok-add_cells_to b ↦
          subst (λ s. Adds (Among value_cmp (OfObject w) (take (i + 1) vs)) (length rows) c.args.places.now.keys s.keys) (sym b.places-is)
          (value_more w (length rows) c.args.places.now.keys old b.add_cells_to.new.places.keys vs i v c.loop-value-test.true c.loop-value.invariant
          (for_object w (length rows) b.in-Object.number old b.add_cells_to.new.places.keys (get_or vs i v) (sym c.value-item.is ∙ b.in-Object.is)
          b.in_ok-add_cells_to.ensures))
      | in_default b ↦
          subst (λ s. Adds (Among value_cmp (OfObject w) (take (i + 1) vs)) (length rows) c.args.places.now.keys s.keys) (sym b.places-is)
          (value_more w (length rows) c.args.places.now.keys old old vs i v c.loop-value-test.true c.loop-value.invariant
          (none_added (OfObject w (get_or vs i v)) (length rows) old (λ k h. b.in_default.not-Object h.0 (c.value-item.is ∙ h.1))))
    ]

pub returns : goal.returns
returns c =
    let rows = c.args.rows.now in
    let vs = c.as_slice-value-items.result.now in
    let w = RefersTo rows c.args.references.now in
    for_any w (length rows) c.args.places.now.keys c.loop-value.places.keys c.args.doomed.now
    (subst (λ l. Adds (Among value_cmp (OfObject w) l) (length rows) c.args.places.now.keys c.loop-value.places.keys) c.as_slice-value-items.ensures.values
    (each_all value_cmp (OfObject w) (length rows) c.args.places.now.keys c.loop-value.places.keys vs c.loop-value.value-index
    (omega (arith, c.loop-value-test.false)) c.loop-value.invariant))

pub loop-value-init : goal.loop-value-init
loop-value-init c =
    each_none value_cmp (OfObject (RefersTo c.args.rows.now c.args.references.now)) (length c.args.rows.now) c.args.places.now.keys
    c.as_slice-value-items.result.now

pub add_cells_to-requires-clause-small : goal.add_cells_to-requires-clause-small
add_cells_to-requires-clause-small c =
    let vs = c.as_slice-value-items.result.now in
    let i = c.loop-value.value-index in
    let v = c.value-item.result in
    let m = c.in-Object.number in
    let is : get_or vs i v ≡ Object m = sym c.value-item.is ∙ c.in-Object.is in
    c.requires.small m
    (ap (contains (Object m)) (sym c.as_slice-value-items.ensures.values)
    ∙ list_any_at (λ y. is_eq (value_cmp (Object m) y)) vs i v c.loop-value-test.true (ap (λ y. is_eq (value_cmp (Object m) y)) is ∙ ties m m
    ∙ eq-eqb m m refl))
