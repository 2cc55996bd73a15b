use Rattle.std.proofs.Common.{◌≡◌, ◌+◌, ◌*◌, take, Ok}
use Rattle.std.specs.Prelude.{max}
use Rattle.sheet_syntax_trees.specs.declared.tree.Tree.{size-Tree}
use Rattle.sheet_types_formulas.specs.Names.{within}
use Rattle.sheet_types_formulas.specs.Typing.{typed_list}
use Rattle.sheet_types_formulas.proofs.formula.+typing.Given as goal

abbrev pub decreases-typed : goal.decreases-typed
decreases-typed l = 4 * size-Tree l.tree.now

abbrev pub decreases-typed_step : goal.decreases-typed_step
decreases-typed_step l = 4 * size-Tree l.objects.now + 2

abbrev pub decreases-typed_up : goal.decreases-typed_up
decreases-typed_up l = 4 * size-Tree l.objects.now + 2

abbrev pub decreases-typed_negation : goal.decreases-typed_negation
decreases-typed_negation l = 4 * size-Tree l.part.now + 2

abbrev pub decreases-typed_denial : goal.decreases-typed_denial
decreases-typed_denial l = 4 * size-Tree l.part.now + 2

abbrev pub decreases-typed_operation : goal.decreases-typed_operation
decreases-typed_operation l = 4 * max (size-Tree l.left.now) (size-Tree l.right.now) + 2

abbrev pub decreases-typed_choice : goal.decreases-typed_choice
decreases-typed_choice l = 4 * max (size-Tree l.condition.now) (max (size-Tree l.left.now) (size-Tree l.right.now)) + 2

abbrev pub decreases-typed_set : goal.decreases-typed_set
decreases-typed_set l = 4 * goal.size-typed_set l + 2

abbrev pub decreases-typed_parts : goal.decreases-typed_parts
decreases-typed_parts l = 4 * goal.size-typed_parts l + 1

abbrev pub decreases-typed_call : goal.decreases-typed_call
decreases-typed_call l = 4 * size-Tree l.set.now + 2

abbrev pub decreases-typed_inside : goal.decreases-typed_inside
decreases-typed_inside l = 4 * size-Tree l.part.now + 1

abbrev pub decreases-typed_gathering : goal.decreases-typed_gathering
decreases-typed_gathering l = 4 * max (size-Tree l.body.now) (size-Tree l.source.now) + 2

abbrev pub decreases-typed_choosing : goal.decreases-typed_choosing
decreases-typed_choosing l = 4 * max (max (size-Tree l.body.now) (size-Tree l.source.now)) (size-Tree l.condition.now) + 2

abbrev pub decreases-typed_test : goal.decreases-typed_test
decreases-typed_test l = 4 * max (size-Tree l.source.now) (size-Tree l.condition.now) + 2

abbrev pub invariant-typed_parts-loop-part : goal.invariant-typed_parts-loop-part
invariant-typed_parts-loop-part l = typed_list (take l.part-index l.parts) (within l.scope l.bound) ≡ Ok l.list.items
