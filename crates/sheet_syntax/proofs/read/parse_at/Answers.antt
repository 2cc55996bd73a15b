use Rattle.sheet_syntax.proofs.Formulas.{parses_at}
use Rattle.sheet_syntax.proofs.read.parse_at.Goals as goal

pub returns-clause-stands : goal.returns-clause-stands
returns-clause-stands c = parses_at c.args.tokens.now c.args.from c.read_from.result c.requires c.read_from.ensures.within c.read_from.ensures.exact
