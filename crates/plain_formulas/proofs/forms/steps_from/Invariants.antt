use Rattle.std.proofs.Common.{◌≡◌, take}
use Rattle.std.specs.Prelude.{map}
use Rattle.sheet_meaning.specs.Formula.{on_object}
use Rattle.plain_lists.specs.Told.{scene, way_of}
use Rattle.plain_formulas.proofs.forms.steps_from.Given as goal

abbrev pub invariant-loop-value : goal.invariant-loop-value
invariant-loop-value l = l.list.items ≡ map (on_object (way_of (scene l.state l.worked) l.way)) (take l.value-index l.values)
