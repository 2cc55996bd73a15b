use Rattle.sheet_syntax_trees.proofs.Locality.{blocked}
use Rattle.sheet_syntax_trees.proofs.law.refused_tokens_begin_no_formula.Goals as goal

pub returns : goal.returns
returns c = blocked
