use Rattle.sheet_syntax.proofs.Formulas.{parses}
use Rattle.sheet_syntax.proofs.read.parse_formula.Goals as goal

pub returns-clause-stands : goal.returns-clause-stands
returns-clause-stands c = parses c.args.text.now c.read_text.result c.read_text.ensures
