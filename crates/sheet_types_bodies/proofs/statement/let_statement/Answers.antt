use Rattle.std.proofs.Common.{◌≡◌, refl, sym, ◌∙◌}
use Rattle.sheet_types_formulas.specs.Typing.{typed}
use Rattle.sheet_types_bodies.specs.Calls.{here, made_with}
use Rattle.sheet_types_bodies.specs.Statements.{let_of}
use Rattle.sheet_types_bodies.proofs.Blocks.{begins_one}
use Rattle.sheet_types_bodies.proofs.Steps.{passed_on}
use Rattle.sheet_types_bodies.proofs.statement.let_statement.Goals as goal

pub returns-in_err-value-clause-told : goal.returns-in_err-value-clause-told
unfolding let_of
returns-in_err-value-clause-told c =
    let same : c.as_slice.result.now ≡ c.args.variables.now.items = c.as_slice.ensures.value ∙ c.reserve.ensures.items in
    passed_on c.in_err-value.field-0.0 (typed c.args.value.now (here c.args.sheet.now c.as_slice.result.now)) _
    (made_with c.args.sheet.now c.reserve.new.self.items) c.from_residual-in_err-value.result
    c.from_residual-in_err-value.ensures.1 c.in_err-value.ensures (λ h. rw (sym same, h) refl)

pub returns-clause-told : goal.returns-clause-told
unfolding let_of
returns-clause-told c =
    let same : c.as_slice.result.now ≡ c.args.variables.now.items = c.as_slice.ensures.value ∙ c.reserve.ensures.items in
    rw (sym same, c.in_ok-value.ensures, c.push_reserved.ensures.items, c.in_ok-name.ensures, sym c.as_slice.ensures.value, c.in_ok-next.ensures) refl

pub returns-clause-front : goal.returns-clause-front
returns-clause-front c = rw (c.push_reserved.ensures.items, c.reserve.ensures.items) (begins_one _ _)
