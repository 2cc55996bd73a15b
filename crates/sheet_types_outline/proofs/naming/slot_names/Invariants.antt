use Rattle.std.proofs.Common.{◌≡◌, [], drop}
use Rattle.sheet_types_outline.specs.Naming.{name_show}
use Rattle.sheet_types_outline.specs.Steps.{in_turn}
use Rattle.sheet_types_outline.proofs.naming.slot_names.Given as goal

abbrev pub invariant-loop-show : goal.invariant-loop-show
invariant-loop-show l = in_turn name_show l.names (drop l.show-index l.shows) ≡ in_turn name_show [] l.shows
