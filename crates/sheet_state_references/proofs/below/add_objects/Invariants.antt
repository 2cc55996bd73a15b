use Rattle.std.proofs.Common.{◌≡◌, ℕ, take}
use Rattle.std.specs.Prelude.{◌||◌}
use Rattle.sheet_values.specs.Sets.{contains}
use Rattle.sheet_values.specs.declared.value.Value.TheVariants.{Object}
use Rattle.sheet_state_references.specs.Below.{has}
use Rattle.sheet_state_references.proofs.below.add_objects.Given as goal

abbrev pub invariant-loop-value : goal.invariant-loop-value
invariant-loop-value l = (n : ℕ) → has n l.waiting.keys ≡ (has n l.fn.waiting.keys || contains (Object n) (take l.value-index l.value-items))
