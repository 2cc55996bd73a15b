use Rattle.std.proofs.Common.{◌≡◌, length}
use Rattle.sheet_types_formulas.specs.Names.{variable_from}
use Rattle.sheet_types_formulas.proofs.names.variable_from.Given as goal

abbrev pub decreases-loop-last : goal.decreases-loop-last
decreases-loop-last l = length l.rest

abbrev pub invariant-loop-last : goal.invariant-loop-last
invariant-loop-last l = variable_from l.first l.line l.name l.rest ≡ variable_from l.fn.first l.fn.line l.fn.name l.fn.variables
