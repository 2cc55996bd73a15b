use Rattle.std.proofs.Common.{◌≡◌, take}
use Rattle.std.specs.List.{flat_map}
use Rattle.sheet_state.specs.Births.{with_items}
use Rattle.sheet_state.specs.Deaths.{up_items}
use Rattle.sheet_state.specs.Rows.{objects_in}
use Rattle.sheet_state.proofs.death.add_ups.Given as goal

abbrev pub invariant-loop-value : goal.invariant-loop-value
invariant-loop-value l = l.items ≡ with_items l.fn.items (flat_map (up_items (objects_in l.rows)) (take l.value-index l.value-items))
