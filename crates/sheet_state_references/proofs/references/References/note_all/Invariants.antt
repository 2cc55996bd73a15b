use Rattle.std.proofs.Common.{◌≡◌, ℕ, true, take}
use Rattle.sheet_values.specs.Sorted.{contains}
use Rattle.sheet_values.specs.Sets.{contains as has_value}
use Rattle.sheet_values.specs.declared.value.Value.TheVariants.{Object}
use Rattle.sheet_state_references.specs.Order.{reference_cmp}
use Rattle.sheet_state_references.specs.declared.references.Reference.{Reference}
use Rattle.sheet_state_references.proofs.references.References.note_all.Given as goal

abbrev pub invariant-loop-value : goal.invariant-loop-value
invariant-loop-value l = record {
  noted : (n : ℕ) → has_value (Object n) (take l.value-index l.value-items) ≡ true →
      contains reference_cmp (record { to = n; object = l.object; column = l.column }) l.self ≡ true;
  others : (r : Reference) → contains reference_cmp r l.fn.self ≡ true → contains reference_cmp r l.self ≡ true;
}
