use Rattle.std.proofs.Common.{sym, ◌∙◌}
use Rattle.plain_procedures.specs.Points.{as_point}
use Rattle.plain_procedures.proofs.PointLemmas.{removed}
use Rattle.plain_procedures.proofs.point.remove.Goals as goal

pub returns : goal.returns
returns c =
    removed c.args.schema.now (as_point c.args.point) (as_point c.in_ok-point.point) c.args.object c.in_ok-next.next (sym c.is_present.ensures
    ∙ c.if-not-is_present.false)
    c.in_ok-next.ensures c.in_ok-point.ensures
