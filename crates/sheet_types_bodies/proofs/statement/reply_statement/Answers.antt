use Rattle.std.proofs.Common.{refl}
use Rattle.sheet_types_formulas.specs.Typing.{typed}
use Rattle.sheet_types_bodies.specs.Calls.{here, made_with}
use Rattle.sheet_types_bodies.specs.Statements.{reply_of}
use Rattle.sheet_types_bodies.proofs.Steps.{passed_on}
use Rattle.sheet_types_bodies.proofs.statement.reply_statement.Goals as goal

pub returns-in_err-value : goal.returns-in_err-value
unfolding reply_of
returns-in_err-value c =
    passed_on c.in_err-value.field-0.0 (typed c.args.value.now (here c.args.sheet.now c.args.variables.now)) _ (made_with c.args.sheet.now c.args.variables.now)
    c.from_residual-in_err-value.result
    c.from_residual-in_err-value.ensures.1 c.in_err-value.ensures (λ h. rw h refl)

pub returns : goal.returns
unfolding reply_of
returns c = rw (c.in_ok-value.ensures, c.in_ok-next.ensures) refl
