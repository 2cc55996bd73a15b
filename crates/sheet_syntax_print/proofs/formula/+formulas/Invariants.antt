use Rattle.std.proofs.Common.{◌≡◌, ◌+◌, ◌*◌, ◌++◌, take}
use Rattle.std.specs.Prelude.{max, codes}
use Rattle.std.specs.List.{flat_map}
use Rattle.sheet_syntax_trees.specs.declared.tree.Tree.{size-Tree}
use Rattle.sheet_syntax_trees.specs.Printing.{formula_text}
use Rattle.sheet_syntax_print.proofs.formula.+formulas.Given as goal

abbrev pub decreases-append_formula : goal.decreases-append_formula
decreases-append_formula l = 6 * size-Tree l.tree.now

abbrev pub decreases-append_operand : goal.decreases-append_operand
decreases-append_operand l = 6 * size-Tree l.part.now + 1

abbrev pub decreases-append_child : goal.decreases-append_child
decreases-append_child l = 6 * size-Tree l.object.now + 2

abbrev pub decreases-append_up : goal.decreases-append_up
decreases-append_up l = 6 * size-Tree l.object.now + 2

abbrev pub decreases-append_prefixed : goal.decreases-append_prefixed
decreases-append_prefixed l = 6 * size-Tree l.part.now + 2

abbrev pub decreases-append_operation : goal.decreases-append_operation
decreases-append_operation l = 6 * max (size-Tree l.a.now) (size-Tree l.b.now) + 2

abbrev pub decreases-append_choice : goal.decreases-append_choice
decreases-append_choice l = 6 * max (size-Tree l.condition.now) (max (size-Tree l.a.now) (size-Tree l.b.now)) + 2

abbrev pub decreases-append_set : goal.decreases-append_set
decreases-append_set l = 6 * goal.size-append_set l + 4

abbrev pub decreases-append_parts : goal.decreases-append_parts
decreases-append_parts l = 6 * goal.size-append_parts l + 3

abbrev pub decreases-append_others : goal.decreases-append_others
decreases-append_others l = 6 * goal.size-append_others l + 2

abbrev pub decreases-append_other : goal.decreases-append_other
decreases-append_other l = 6 * size-Tree l.part.now + 1

abbrev pub decreases-append_call : goal.decreases-append_call
decreases-append_call l = 6 * size-Tree l.set.now + 2

abbrev pub decreases-append_bound : goal.decreases-append_bound
decreases-append_bound l = 6 * max (size-Tree l.body.now) (size-Tree l.source.now) + 2

abbrev pub decreases-append_gathered : goal.decreases-append_gathered
decreases-append_gathered l = 6 * max (size-Tree l.body.now) (size-Tree l.source.now) + 3

abbrev pub decreases-append_chosen : goal.decreases-append_chosen
decreases-append_chosen l = 6 * max (max (size-Tree l.body.now) (size-Tree l.source.now)) (size-Tree l.condition.now) + 3

abbrev pub decreases-append_test : goal.decreases-append_test
decreases-append_test l = 6 * max (size-Tree l.source.now) (size-Tree l.condition.now) + 2

abbrev pub invariant-append_others-loop-part : goal.invariant-append_others-loop-part
invariant-append_others-loop-part l = l.out.items ≡ l.fn.out.items ++ flat_map (λ part. codes ", " ++ formula_text part) (take l.part-index l.parts)
