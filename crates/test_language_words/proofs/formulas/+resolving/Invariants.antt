use Rattle.std.proofs.Common.{◌+◌, ◌*◌}
use Rattle.sheet_syntax_trees.specs.declared.tree.Tree.{size-Tree}
use Rattle.test_language_words.proofs.formulas.+resolving.Given as goal

abbrev pub decreases-resolved : goal.decreases-resolved
decreases-resolved l = 3 * size-Tree l.tree.now

abbrev pub decreases-under : goal.decreases-under
decreases-under l = 3 * size-Tree l.tree.now + 1

abbrev pub decreases-set_of : goal.decreases-set_of
decreases-set_of l = 3 * goal.size-set_of l + 1
