use Rattle.std.proofs.Common.{refl, sym}
use Rattle.sheet_types_bodies.specs.Calls.{here}
use Rattle.sheet_types_bodies.specs.Statements.{changed, formula_of}
use Rattle.sheet_types_bodies.proofs.Steps.{passed_plainly}
use Rattle.sheet_types_bodies.proofs.statement.changed.Goals as goal

pub returns-in_err-value : goal.returns-in_err-value
unfolding changed
returns-in_err-value c =
    passed_plainly c.in_err-value.field-0.0 (formula_of c.kind_at-wanted.result c.args.value.now (here c.args.sheet.now c.args.variables.now)) _
    c.from_residual.result c.from_residual.ensures.1 c.in_err-value.ensures (λ h. rw (sym c.kind_at-wanted.ensures, h) refl)

pub returns : goal.returns
unfolding changed
returns c = rw (sym c.kind_at-wanted.ensures, c.in_ok-value.ensures) refl
