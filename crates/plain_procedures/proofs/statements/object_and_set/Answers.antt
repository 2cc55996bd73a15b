use Rattle.std.proofs.Common.{subst, ap, ◌∙◌}
use Rattle.sheet_meaning.specs.Run.{both}
use Rattle.sheet_meaning.specs.Statements.{target_object}
use Rattle.plain_procedures.specs.Points.{as_point, GoesOn}
use Rattle.plain_procedures.proofs.statements.object_and_set.Goals as goal

pub returns : goal.returns
returns c =
    let p = as_point c.args.point in
    subst (λ r. GoesOn c.args.schema.now r p c.go_on.result)
    (c.in_ok-run.ensures
    ∙ ap (λ o. both o c.in_ok-set.set) c.in_ok-object.ensures
    ∙ ap (both (target_object c.args.schema.now p c.args.number c.args.target.now)) c.in_ok-set.ensures)
    c.go_on.ensures
