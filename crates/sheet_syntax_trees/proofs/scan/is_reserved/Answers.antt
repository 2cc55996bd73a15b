use Rattle.sheet_syntax_trees.specs.Tokens.{is_reserved}
use Rattle.sheet_syntax_trees.proofs.scan.is_reserved.Goals as goal

pub returns : goal.returns
unfolding is_reserved
returns c = c.contains_word.ensures
