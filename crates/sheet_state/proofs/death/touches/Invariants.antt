use Rattle.std.proofs.Common.{◌≡◌, take}
use Rattle.sheet_values.specs.Sets.{minus}
use Rattle.sheet_state.proofs.death.touches.Given as goal

abbrev pub invariant-loop-value : goal.invariant-loop-value
invariant-loop-value l = minus (take l.value-index l.value-items) l.doomed ≡ take l.value-index l.value-items
