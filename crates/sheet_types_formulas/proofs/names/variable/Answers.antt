use Rattle.std.proofs.Common.{rules, ◌≡◌, length, Some, None, sym, ap, ◌∙◌}
use Rattle.std.specs.Option.{option_or}
use Rattle.sheet_types_formulas.specs.Names.{variable_from}
use Rattle.sheet_types_formulas.proofs.Finding.{variables_append, same_if_ok}
use Rattle.sheet_types_formulas.proofs.names.variable.Goals as goal

pub returns-in-Some : goal.returns-in-Some
returns-in-Some c =
    let inner : Some c.in-Some.found ≡ variable_from (length c.args.scope.now.variables.now) c.args.line c.args.name.now c.args.bound.now = search rules in
    ap (λ o. option_or o (variable_from 0 c.args.line c.args.name.now c.args.scope.now.variables.now)) inner
    ∙ sym (variables_append c.args.line c.args.name.now c.args.scope.now.variables.now c.args.bound.now)

pub returns : goal.returns
returns c =
    let inner : None ≡ variable_from (length c.args.scope.now.variables.now) c.args.line c.args.name.now c.args.bound.now = search rules in
    same_if_ok c.variable_from-2.result
    (ap (λ o. option_or o (variable_from 0 c.args.line c.args.name.now c.args.scope.now.variables.now)) inner
    ∙ sym (variables_append c.args.line c.args.name.now c.args.scope.now.variables.now c.args.bound.now))
    c.variable_from-2.ensures
