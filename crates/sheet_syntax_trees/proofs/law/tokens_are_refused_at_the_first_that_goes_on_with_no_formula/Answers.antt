use Rattle.sheet_syntax_trees.proofs.Refusing.{first}
use Rattle.sheet_syntax_trees.proofs.law.tokens_are_refused_at_the_first_that_goes_on_with_no_formula.Goals as goal

pub returns : goal.returns
returns c = first
