use Rattle.std.proofs.Common.{subst}
use Rattle.sheet_types_formulas.specs.Answers.{Answers}
use Rattle.sheet_types_formulas.specs.Names.{in_scope}
use Rattle.sheet_types_formulas.specs.Typing.{typed}
use Rattle.sheet_types_formulas.proofs.Sound.{none_bound, kind_of_answer, line_of_answer}
use Rattle.sheet_types_formulas.proofs.formula.type_formula.Goals as goal

pub returns : goal.returns
returns c =
    let told = subst (λ r. Answers c.typed.result (typed c.args.tree.now r)) (none_bound c.args.scope.now) c.typed.ensures in
    record {
      typed = told;
      kind = kind_of_answer c.typed.result c.args.tree.now (in_scope c.args.scope.now) told;
      line = line_of_answer c.typed.result c.args.tree.now (in_scope c.args.scope.now) told;
    }
