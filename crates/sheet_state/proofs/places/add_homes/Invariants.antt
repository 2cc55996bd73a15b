use Rattle.std.proofs.Common.{take, length}
use Rattle.sheet_values.specs.Order.{value_cmp}
use Rattle.sheet_state.specs.Places.{Adds, IsHomeOf}
use Rattle.sheet_state.proofs.Adding.{Among, OfObject}
use Rattle.sheet_state.proofs.places.add_homes.Given as goal

abbrev pub invariant-loop-value : goal.invariant-loop-value
invariant-loop-value l =
    Adds (Among value_cmp (OfObject (IsHomeOf l.objects l.extents)) (take l.value-index l.value-items)) (length l.extents) l.fn.places.keys l.places.keys
