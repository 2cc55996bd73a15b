use Rattle.std.proofs.Common.{◌≡◌, ◌∙◌, subst, ℕ, length, arith, refl, eq-eqb, Some, List}
use Rattle.std.specs.Prelude.{position, filter}
use Rattle.sheet_state_rows.specs.declared.row.SetRow.{SetRow}
use Rattle.sheet_state_references.specs.Order.{reference_cmp, is_to}
use Rattle.sheet_state_references.specs.declared.references.Reference.{Reference}
use Rattle.sheet_state_references.proofs.Between.{same_reference, stays}
use Rattle.sheet_state.specs.Places.{Adds, RefersTo}
use Rattle.sheet_state.specs.Rows.{is_set}
use Rattle.sheet_state.proofs.Adding.{Among, each_more, each_all, fewer}
use Rattle.sheet_state.proofs.places.add_cells_to.Goals as goal

abbrev wanted : List SetRow → Reference → ℕ → Type 0
wanted rows r k = position (is_set r.object r.column) rows ≡ Some k

pub loop-reference-preserved : goal.loop-reference-preserved
loop-reference-preserved c =
    let rows = c.args.rows.now in
    each_more reference_cmp same_reference (wanted rows) (length rows) c.args.places.now.keys c.loop-reference.places.keys c.add_set.new.places.keys
    c.as_slice-reference-items.result.now c.loop-reference.reference-index _ c.loop-reference-test.true c.loop-reference.invariant c.in_ok-add_set.ensures

pub returns : goal.returns
returns c =
    let rows = c.args.rows.now in
    let refs = c.args.references.now in
    let o = c.args.object in
    let items = c.as_slice-reference-items.result.now in
    let is : items ≡ filter (is_to o) refs = c.as_slice-reference-items.ensures.value ∙ c.in_ok-to.ensures in
    fewer (Among reference_cmp (wanted rows) (filter (is_to o) refs)) (RefersTo rows refs o) (length rows) c.args.places.now.keys c.loop-reference.places.keys
    (λ k h. (
      record { to = o; object = h.0; column = h.1 },
      stays (is_to o) (record { to = o; object = h.0; column = h.1 }) refs h.2 (eq-eqb o o refl),
      h.3,
    ))
    (subst (λ l. Adds (Among reference_cmp (wanted rows) l) (length rows) c.args.places.now.keys c.loop-reference.places.keys) is
    (each_all reference_cmp (wanted rows) (length rows) c.args.places.now.keys c.loop-reference.places.keys items c.loop-reference.reference-index
    (omega (arith, c.loop-reference-test.false)) c.loop-reference.invariant))
