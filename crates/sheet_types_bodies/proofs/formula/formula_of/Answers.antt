use Rattle.std.proofs.Common.{refl}
use Rattle.sheet_types_formulas.specs.Typing.{typed}
use Rattle.sheet_types_formulas.specs.Kinds.{agreed}
use Rattle.sheet_types_bodies.specs.Calls.{here}
use Rattle.sheet_types_bodies.specs.Statements.{formula_of}
use Rattle.sheet_types_bodies.proofs.Steps.{passed_plainly}
use Rattle.sheet_types_bodies.proofs.formula.formula_of.Goals as goal

pub returns-in_err-found : goal.returns-in_err-found
unfolding formula_of
returns-in_err-found c =
    passed_plainly c.in_err-found.field-0.0 (typed c.args.written.now (here c.args.sheet.now c.args.variables.now)) _ c.from_residual.result
    c.from_residual.ensures.1 c.in_err-found.ensures (λ h. rw h refl)

pub returns-in_err-agree : goal.returns-in_err-agree
unfolding formula_of
returns-in_err-agree c =
    passed_plainly c.in_err-agree.field-0.0 (agreed c.args.sheet.now.columns.now c.args.wanted c.in_ok-found.found) _ c.from_residual-in_err-agree.result
    c.from_residual-in_err-agree.ensures.1 c.in_err-agree.ensures (λ h. rw (c.in_ok-found.ensures, h) refl)

pub returns : goal.returns
unfolding formula_of
returns c = rw (c.in_ok-found.ensures, c.in_ok-agree.ensures) refl
