use Rattle.std.proofs.Common.{rules, ◌≡◌, ◌+◌, ◌++◌, ◌∷◌, [], length, Some, true, false, sym, ap, ◌∙◌}
use Rattle.std.specs.Prelude.{bytes_eq}
use Rattle.sheet_columns.specs.declared.formula.Core.TheVariants as core
use Rattle.sheet_types_formulas.specs.Names.{typed_as, variable_from}
use Rattle.sheet_types_formulas.proofs.Finding.{variable_found, variable_passed}
use Rattle.sheet_types_formulas.proofs.names.variable_from.Goals as goal

pub returns-then-eq : goal.returns-then-eq
returns-then-eq c =
    let whole : c.loop-last.rest.now ≡ c.in-Some.others.now ++ c.in-Some.last.now ∷ [] = search rules in
    let place : c.in_ok-position.position ≡ c.args.first + length c.in-Some.others.now = search rules in
    let same : bytes_eq c.in-Some.last.now.name c.args.name.now ≡ true = search rules in
    ap (λ k. Some (typed_as c.args.line (core.Variable k) c.in-Some.last.now.kind)) place
    ∙ sym (variable_found c.args.first c.args.line c.args.name.now c.in-Some.others.now c.in-Some.last.now same)
    ∙ ap (variable_from c.args.first c.args.line c.args.name.now) (sym whole)
    ∙ c.loop-last.invariant

pub loop-last-preserved : goal.loop-last-preserved
loop-last-preserved c =
    let whole : c.loop-last.rest.now ≡ c.in-Some.others.now ++ c.in-Some.last.now ∷ [] = search rules in
    let other : bytes_eq c.in-Some.last.now.name c.args.name.now ≡ false = search rules in
    sym (variable_passed c.args.first c.args.line c.args.name.now c.in-Some.others.now c.in-Some.last.now other)
    ∙ ap (variable_from c.args.first c.args.line c.args.name.now) (sym whole)
    ∙ c.loop-last.invariant
