use Rattle.std.proofs.Common.{◌≡◌, ◌+◌, ◌*◌, drop}
use Rattle.std.specs.Prelude.{max}
use Rattle.sheet_syntax_trees.specs.declared.tree.Tree.{size-Tree}
use Rattle.sheet_types_rounds.specs.Waiting.{one_waits}
use Rattle.sheet_types_rounds.proofs.waiting.+waiting.Given as goal

abbrev pub decreases-waits : goal.decreases-waits
decreases-waits l = 4 * size-Tree l.tree.now

abbrev pub decreases-one_of_two : goal.decreases-one_of_two
decreases-one_of_two l = 4 * max (size-Tree l.a.now) (size-Tree l.b.now) + 1

abbrev pub decreases-one_of_three : goal.decreases-one_of_three
decreases-one_of_three l = 4 * max (size-Tree l.a.now) (max (size-Tree l.b.now) (size-Tree l.c.now)) + 2

abbrev pub decreases-gathered : goal.decreases-gathered
decreases-gathered l = 4 * max (size-Tree l.source.now) (size-Tree l.body.now) + 1

abbrev pub decreases-one_waits : goal.decreases-one_waits
decreases-one_waits l = 4 * goal.size-one_waits l + 1

abbrev pub invariant-one_waits-loop-part : goal.invariant-one_waits-loop-part
invariant-one_waits-loop-part l = one_waits (drop l.part-index l.parts) l.known ≡ one_waits l.parts l.known
