use Rattle.std.proofs.Common.{refl}
use Rattle.sheet_types_bodies.specs.Calls.{here}
use Rattle.sheet_types_bodies.specs.Targets.{target, objects_target}
use Rattle.sheet_types_bodies.proofs.Steps.{passed_plainly}
use Rattle.sheet_types_bodies.proofs.target.objects_target.Goals as goal

pub returns-in_err-found : goal.returns-in_err-found
unfolding objects_target
returns-in_err-found c =
    passed_plainly c.in_err-found.field-0.0 (target c.args.written.now (here c.args.sheet.now c.args.variables.now)) _ c.from_residual.result
    c.from_residual.ensures.1 c.in_err-found.ensures.told (λ h. rw h refl)

pub returns : goal.returns
unfolding objects_target
returns c = rw (c.in_ok-found.ensures.told, c.get-column.ensures) c.require_objects.ensures
