use Rattle.std.proofs.Common.{◌≡◌, [], drop}
use Rattle.sheet_types_outline.specs.Naming.{name_part}
use Rattle.sheet_types_outline.specs.Steps.{in_turn}
use Rattle.sheet_types_outline.proofs.naming.part_names.Given as goal

abbrev pub invariant-loop-part : goal.invariant-loop-part
invariant-loop-part l = in_turn name_part l.names (drop l.part-index l.parts) ≡ in_turn name_part [] l.parts
