use Rattle.std.proofs.Common.{◌≡◌, Some, take, length}
use Rattle.std.specs.Prelude.{position}
use Rattle.sheet_state_references.specs.Order.{reference_cmp}
use Rattle.sheet_state_references.specs.declared.references.Reference.{Reference}
use Rattle.sheet_state.specs.Places.{Adds}
use Rattle.sheet_state.specs.Rows.{is_set}
use Rattle.sheet_state.proofs.Adding.{Among}
use Rattle.sheet_state.proofs.places.add_cells_to.Given as goal

abbrev pub invariant-loop-reference : goal.invariant-loop-reference
invariant-loop-reference l =
    Adds (Among reference_cmp (λ (r : Reference) k. position (is_set r.object r.column) l.rows ≡ Some k) (take l.reference-index l.reference-items))
    (length l.rows) l.fn.places.keys l.places.keys
