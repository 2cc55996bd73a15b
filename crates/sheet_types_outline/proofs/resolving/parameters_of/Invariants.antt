use Rattle.std.proofs.Common.{◌≡◌, [], drop}
use Rattle.sheet_types_outline.specs.Resolving.{resolve_parameter}
use Rattle.sheet_types_outline.specs.Steps.{in_turn}
use Rattle.sheet_types_outline.proofs.resolving.parameters_of.Given as goal

abbrev pub invariant-loop-parameter : goal.invariant-loop-parameter
invariant-loop-parameter l =
    in_turn (resolve_parameter l.columns) l.typed (drop l.parameter-index l.parameters) ≡ in_turn (resolve_parameter l.columns) [] l.parameters
