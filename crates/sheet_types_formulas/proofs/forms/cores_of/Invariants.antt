use Rattle.std.proofs.Common.{◌≡◌, map}
use Rattle.sheet_types_formulas.specs.declared.scope.Typed.{Typed}
use Rattle.sheet_types_formulas.proofs.forms.cores_of.Given as goal

abbrev pub invariant-loop-part : goal.invariant-loop-part
invariant-loop-part l = l.cores ≡ map (λ (part : Typed). part.core) l.yielded
