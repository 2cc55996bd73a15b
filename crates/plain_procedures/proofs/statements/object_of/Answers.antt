use Rattle.std.proofs.Common.{subst}
use Rattle.plain_procedures.specs.Points.{as_point, GoesOn}
use Rattle.plain_procedures.proofs.statements.object_of.Goals as goal

pub returns : goal.returns
returns c = subst (λ r. GoesOn c.args.schema.now r (as_point c.args.point) c.go_on.result) c.in_ok-run.ensures c.go_on.ensures
