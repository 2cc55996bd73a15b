use Rattle.std.proofs.Common.{◌≤◌, ap, ◌∙◌, arith}
use Rattle.std.proofs.lemmas.Bool.{le-ltb}
use Rattle.sheet_meaning.specs.WellFormed.{stored_values, max_values}
use Rattle.plain_procedures.specs.Points.{as_point, stored_in}
use Rattle.plain_procedures.proofs.PointLemmas.{stored_within}
use Rattle.plain_procedures.proofs.point.store.Goals as goal

pub returns : goal.returns
returns c =
    let few : stored_values c.in_ok-next.next.cells ≤ max_values =
    omega (arith, c.stored_values.ensures, ap stored_values c.as_slice-2.ensures, c.if-stored_values-gt-MAX_VALUES.false) in
    stored_within c.args.schema.now c.args.change c.args.object c.args.column c.args.set (as_point c.args.point) (as_point c.in_ok-point.point)
    c.in_ok-next.next
    (c.in_ok-next.ensures ∙ ap (stored_in c.args.point.state c.args.change c.args.object c.args.column) c.as_slice.ensures)
    (le-ltb max_values (stored_values c.in_ok-next.next.cells) few) c.in_ok-point.ensures
