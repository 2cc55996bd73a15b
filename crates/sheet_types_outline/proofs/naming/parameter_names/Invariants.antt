use Rattle.std.proofs.Common.{◌≡◌, [], drop}
use Rattle.sheet_types_outline.specs.Naming.{name_parameter}
use Rattle.sheet_types_outline.specs.Steps.{in_turn}
use Rattle.sheet_types_outline.proofs.naming.parameter_names.Given as goal

abbrev pub invariant-loop-parameter : goal.invariant-loop-parameter
invariant-loop-parameter l = in_turn name_parameter l.names (drop l.parameter-index l.parameters) ≡ in_turn name_parameter [] l.parameters
