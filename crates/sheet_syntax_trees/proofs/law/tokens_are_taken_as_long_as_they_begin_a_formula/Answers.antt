use Rattle.sheet_syntax_trees.proofs.Locality.{taken}
use Rattle.sheet_syntax_trees.proofs.law.tokens_are_taken_as_long_as_they_begin_a_formula.Goals as goal

pub returns : goal.returns
returns c = taken
