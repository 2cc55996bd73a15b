use Rattle.std.proofs.Common.{◌+◌, ◌*◌, ◌++◌, take}
use Rattle.std.specs.Prelude.{max, codes}
use Rattle.std.specs.List.{flat_map}
use Rattle.sheet_syntax_trees.specs.declared.tree.Tree.{size-Tree}
use Rattle.sheet_syntax_trees.specs.Printing.{formula_text}
use Rattle.sheet_define_length.specs.Counting.{Counts}
use Rattle.sheet_define_length.proofs.formula.+formulas.Given as goal

abbrev pub decreases-count_formula : goal.decreases-count_formula
decreases-count_formula l = 6 * size-Tree l.tree.now

abbrev pub decreases-count_operand : goal.decreases-count_operand
decreases-count_operand l = 6 * size-Tree l.part.now + 1

abbrev pub decreases-count_child : goal.decreases-count_child
decreases-count_child l = 6 * size-Tree l.object.now + 2

abbrev pub decreases-count_up : goal.decreases-count_up
decreases-count_up l = 6 * size-Tree l.object.now + 2

abbrev pub decreases-count_prefixed : goal.decreases-count_prefixed
decreases-count_prefixed l = 6 * size-Tree l.part.now + 2

abbrev pub decreases-count_operation : goal.decreases-count_operation
decreases-count_operation l = 6 * max (size-Tree l.a.now) (size-Tree l.b.now) + 2

abbrev pub decreases-count_choice : goal.decreases-count_choice
decreases-count_choice l = 6 * max (size-Tree l.condition.now) (max (size-Tree l.a.now) (size-Tree l.b.now)) + 2

abbrev pub decreases-count_set : goal.decreases-count_set
decreases-count_set l = 6 * goal.size-count_set l + 4

abbrev pub decreases-count_parts : goal.decreases-count_parts
decreases-count_parts l = 6 * goal.size-count_parts l + 3

abbrev pub decreases-count_others : goal.decreases-count_others
decreases-count_others l = 6 * goal.size-count_others l + 2

abbrev pub decreases-count_other : goal.decreases-count_other
decreases-count_other l = 6 * size-Tree l.part.now + 1

abbrev pub decreases-count_call : goal.decreases-count_call
decreases-count_call l = 6 * size-Tree l.set.now + 2

abbrev pub decreases-count_bound : goal.decreases-count_bound
decreases-count_bound l = 6 * max (size-Tree l.body.now) (size-Tree l.source.now) + 2

abbrev pub decreases-count_gathered : goal.decreases-count_gathered
decreases-count_gathered l = 6 * max (size-Tree l.body.now) (size-Tree l.source.now) + 3

abbrev pub decreases-count_chosen : goal.decreases-count_chosen
decreases-count_chosen l = 6 * max (max (size-Tree l.body.now) (size-Tree l.source.now)) (size-Tree l.condition.now) + 3

abbrev pub decreases-count_test : goal.decreases-count_test
decreases-count_test l = 6 * max (size-Tree l.source.now) (size-Tree l.condition.now) + 2

abbrev pub invariant-count_others-loop-part : goal.invariant-count_others-loop-part
invariant-count_others-loop-part l = Counts l.total l.sum (flat_map (λ part. codes ", " ++ formula_text part) (take l.part-index l.parts))
