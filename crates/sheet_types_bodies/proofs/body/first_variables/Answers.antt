use Rattle.std.proofs.Common.{rules}
use Rattle.sheet_types_bodies.proofs.Starting.{parameter_more}
use Rattle.sheet_types_bodies.proofs.body.first_variables.Goals as goal

pub loop-parameter-preserved : goal.loop-parameter-preserved
loop-parameter-preserved c =
    parameter_more c.args.callers c.args.parameters.now c.loop-parameter.parameter-index c.parameter-item.result c.loop-parameter.list.items _
    c.loop-parameter-test.true c.parameter-item.is c.loop-parameter.invariant (search rules)
