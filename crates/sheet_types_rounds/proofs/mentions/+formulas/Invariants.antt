use Rattle.std.proofs.Common.{◌≡◌, ◌+◌, ◌*◌, drop}
use Rattle.std.specs.Prelude.{max}
use Rattle.sheet_syntax_trees.specs.declared.tree.Tree.{size-Tree}
use Rattle.sheet_types_rounds.specs.Mentions.{mentions_list}
use Rattle.sheet_types_rounds.proofs.mentions.+formulas.Given as goal

abbrev pub decreases-mentions : goal.decreases-mentions
decreases-mentions l = 4 * size-Tree l.tree.now

abbrev pub decreases-either : goal.decreases-either
decreases-either l = 4 * max (size-Tree l.a.now) (size-Tree l.b.now) + 1

abbrev pub decreases-one_of_three : goal.decreases-one_of_three
decreases-one_of_three l = 4 * max (size-Tree l.a.now) (max (size-Tree l.b.now) (size-Tree l.c.now)) + 2

abbrev pub decreases-child_mentions : goal.decreases-child_mentions
decreases-child_mentions l = 4 * size-Tree l.object.now + 1

abbrev pub decreases-any_mentions : goal.decreases-any_mentions
decreases-any_mentions l = 4 * goal.size-any_mentions l + 1

abbrev pub invariant-any_mentions-loop-part : goal.invariant-any_mentions-loop-part
invariant-any_mentions-loop-part l = mentions_list (drop l.part-index l.parts) l.names ≡ mentions_list l.parts l.names
