use Rattle.sheet_syntax.proofs.Formulas.{shorter_if}
use Rattle.sheet_syntax.proofs.parser.formula_at.Goals as goal

pub returns-clause-shorter : goal.returns-clause-shorter
returns-clause-shorter c = shorter_if c.args.end c.args.rest.now c.nested_expression.result c.nested_expression.ensures
