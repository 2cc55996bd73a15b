use Rattle.std.proofs.Common.{◌≡◌, take}
use Rattle.sheet_types_formulas.proofs.names.with_variable.Given as goal

abbrev pub invariant-loop-variable : goal.invariant-loop-variable
invariant-loop-variable l = l.list.items ≡ take l.variable-index l.bound
