use Rattle.std.proofs.Common.{refl}
use Rattle.sheet_types_formulas.specs.Typing.{typed}
use Rattle.sheet_types_bodies.specs.Calls.{here, made_with}
use Rattle.sheet_types_bodies.specs.Statements.{deletable, delete_of}
use Rattle.sheet_types_bodies.proofs.Steps.{passed_on}
use Rattle.sheet_types_bodies.proofs.statement.delete_statement.Goals as goal

pub returns-in_err-found : goal.returns-in_err-found
unfolding delete_of
returns-in_err-found c =
    passed_on c.in_err-found.field-0.0 (typed c.args.objects.now (here c.args.sheet.now c.args.variables.now)) _
    (made_with c.args.sheet.now c.args.variables.now) c.from_residual-in_err-found.result
    c.from_residual-in_err-found.ensures.1 c.in_err-found.ensures (λ h. rw h refl)

pub returns-in_err-objects : goal.returns-in_err-objects
unfolding delete_of
returns-in_err-objects c =
    passed_on c.in_err-objects.field-0.0 (deletable c.args.sheet.now.columns.now c.in_ok-found.found) _ (made_with c.args.sheet.now c.args.variables.now)
    c.from_residual-in_err-objects.result
    c.from_residual-in_err-objects.ensures.1 c.in_err-objects.ensures (λ h. rw (c.in_ok-found.ensures, h) refl)

pub returns : goal.returns
unfolding delete_of
returns c = rw (c.in_ok-found.ensures, c.in_ok-objects.ensures, c.in_ok-next.ensures) refl
