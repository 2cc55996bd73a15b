use Rattle.std.proofs.Common.{refl}
use Rattle.sheet_values.specs.declared.value.Kind.TheVariants.{Truth}
use Rattle.sheet_types_bodies.specs.Calls.{here, made_with}
use Rattle.sheet_types_bodies.specs.Statements.{formula_of, check_of}
use Rattle.sheet_types_bodies.proofs.Steps.{passed_on}
use Rattle.sheet_types_bodies.proofs.statement.check_statement.Goals as goal

pub returns-in_err-condition : goal.returns-in_err-condition
unfolding check_of
returns-in_err-condition c =
    passed_on c.in_err-condition.field-0.0 (formula_of Truth c.args.condition.now (here c.args.sheet.now c.args.variables.now)) _
    (made_with c.args.sheet.now c.args.variables.now) c.from_residual-in_err-condition.result
    c.from_residual-in_err-condition.ensures.1 c.in_err-condition.ensures (λ h. rw h refl)

pub returns : goal.returns
unfolding check_of
returns c = rw (c.in_ok-condition.ensures, c.in_ok-message.ensures, c.in_ok-next.ensures) refl
