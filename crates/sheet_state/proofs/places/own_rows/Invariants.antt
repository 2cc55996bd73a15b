use Rattle.std.proofs.Common.{take, length, []}
use Rattle.sheet_values.specs.Order.{value_cmp}
use Rattle.sheet_state.specs.Places.{Adds, IsOwnRow}
use Rattle.sheet_state.proofs.Adding.{Among, OfObject}
use Rattle.sheet_state.proofs.places.own_rows.Given as goal

abbrev pub invariant-loop-value : goal.invariant-loop-value
invariant-loop-value l = Adds (Among value_cmp (OfObject (IsOwnRow l.rows)) (take l.value-index l.value-items)) (length l.rows) [] l.places.keys
