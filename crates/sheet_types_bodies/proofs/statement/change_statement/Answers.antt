use Rattle.std.proofs.Common.{refl}
use Rattle.sheet_types_bodies.specs.Calls.{here, made_with}
use Rattle.sheet_types_bodies.specs.Statements.{changed, change_of}
use Rattle.sheet_types_bodies.specs.Targets.{state_target}
use Rattle.sheet_types_bodies.proofs.Steps.{passed_on}
use Rattle.sheet_types_bodies.proofs.statement.change_statement.Goals as goal

pub returns-in_err-target : goal.returns-in_err-target
unfolding change_of
returns-in_err-target c =
    passed_on c.in_err-target.field-0.0 (state_target c.args.target.now (here c.args.sheet.now c.args.variables.now)) _
    (made_with c.args.sheet.now c.args.variables.now) c.from_residual-in_err-target.result
    c.from_residual-in_err-target.ensures.1 c.in_err-target.ensures (λ h. rw h refl)

pub returns-in_err-core : goal.returns-in_err-core
unfolding change_of
returns-in_err-core c =
    passed_on c.in_err-core.field-0.0 (changed c.args.change c.args.value.now (here c.args.sheet.now c.args.variables.now) c.args.number c.in_ok-target.target)
    _ (made_with c.args.sheet.now c.args.variables.now) c.from_residual-in_err-core.result
    c.from_residual-in_err-core.ensures.1 c.in_err-core.ensures (λ h. rw (c.in_ok-target.ensures, h) refl)

pub returns : goal.returns
unfolding change_of
returns c = rw (c.in_ok-target.ensures, c.in_ok-core.ensures, c.in_ok-next.ensures) refl
