use Rattle.std.proofs.Common.{◌≡◌, take}
use Rattle.sheet_types_bodies.specs.Bodies.{first_variables}
use Rattle.sheet_types_bodies.proofs.body.first_variables.Given as goal

abbrev pub invariant-loop-parameter : goal.invariant-loop-parameter
invariant-loop-parameter l = l.list.items ≡ first_variables l.callers (take l.parameter-index l.parameters)
