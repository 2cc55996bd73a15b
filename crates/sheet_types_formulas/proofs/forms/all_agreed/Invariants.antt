use Rattle.std.proofs.Common.{◌≡◌, length}
use Rattle.sheet_values.specs.declared.value.Kind.TheVariants.{Unknown}
use Rattle.sheet_types_formulas.specs.Forms.{all_agreed}
use Rattle.sheet_types_formulas.proofs.forms.all_agreed.Given as goal

abbrev pub decreases-loop-part : goal.decreases-loop-part
decreases-loop-part l = length l.rest

abbrev pub invariant-loop-part : goal.invariant-loop-part
invariant-loop-part l = all_agreed l.columns l.kind l.rest ≡ all_agreed l.columns Unknown l.parts
