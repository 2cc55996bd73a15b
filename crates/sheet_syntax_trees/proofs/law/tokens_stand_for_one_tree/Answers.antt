use Rattle.sheet_syntax_trees.proofs.Completeness.{one_tree}
use Rattle.sheet_syntax_trees.proofs.law.tokens_stand_for_one_tree.Goals as goal

pub returns : goal.returns
returns c = one_tree
