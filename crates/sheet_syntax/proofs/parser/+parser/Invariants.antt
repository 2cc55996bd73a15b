use Rattle.std.proofs.Common.{◌≡◌, ◌+◌, ◌*◌, ◌-◌, ◌∷◌, [], length}
use Rattle.sheet_syntax_trees.specs.Reading.{setting, more, operand_at, chain_at, parts, within}
use Rattle.sheet_syntax.specs.Waiting.{resumed_by}
use Rattle.sheet_syntax_trees.specs.Operators.{level_rank}
use Rattle.sheet_syntax.proofs.parser.+parser.Given as goal

abbrev pub decreases-gathered : goal.decreases-gathered
decreases-gathered l = 50 * l.room.turns + 4

abbrev pub decreases-summed : goal.decreases-summed
decreases-summed l = 50 * l.room.turns + 5

abbrev pub decreases-tested : goal.decreases-tested
decreases-tested l = 50 * l.room.turns + 4

abbrev pub decreases-called : goal.decreases-called
decreases-called l = 50 * l.room.turns + 4

abbrev pub decreases-parts : goal.decreases-parts
decreases-parts l = 50 * l.room.turns + 4

abbrev pub decreases-braced : goal.decreases-braced
decreases-braced l = 50 * l.room.turns + 5

abbrev pub decreases-parenthesised : goal.decreases-parenthesised
decreases-parenthesised l = 50 * l.room.turns + 4

abbrev pub decreases-bracketed : goal.decreases-bracketed
decreases-bracketed l = 50 * l.room.turns + 6

abbrev pub decreases-atom : goal.decreases-atom
decreases-atom l = 50 * l.room.turns + 7

abbrev pub decreases-postfix : goal.decreases-postfix
decreases-postfix l = 50 * l.room.turns + 8

abbrev pub decreases-operand : goal.decreases-operand
decreases-operand l = 50 * l.room.turns + 6 * level_rank l.level + 12

abbrev pub decreases-chain : goal.decreases-chain
decreases-chain l = 50 * l.room.turns + 6 * level_rank l.level + 14

abbrev pub decreases-nested_expression : goal.decreases-nested_expression
decreases-nested_expression l = 50 * l.room.turns

abbrev pub decreases-closed_where : goal.decreases-closed_where
decreases-closed_where l = 50 * l.room.turns + 3

abbrev pub invariant-chain-loop : goal.invariant-chain-loop
invariant-chain-loop l =
    let s = setting 32 l.room.end l.room.turns l.room.brackets in
    more s l.level (operand_at s l.level) (l.end - l.counter) l.at l.line l.formed l.remaining ≡ chain_at s l.level l.fn.rest

abbrev pub invariant-parts-loop : goal.invariant-parts-loop
invariant-parts-loop l =
    let s = setting 32 l.room.end l.room.turns l.room.brackets in
    parts s (l.end - l.counter) l.token l.trees l.deepest l.remaining ≡ parts s (length l.fn.rest) l.token (l.fn.first.tree ∷ []) l.fn.first.depth l.fn.rest

abbrev pub invariant-nested_expression-loop-alloc : goal.invariant-nested_expression-loop-alloc
invariant-nested_expression-loop-alloc l =
    resumed_by l.room.end l.room.turns l.room.brackets l.waiting.items
    (within 32 l.room.end (l.room.turns - length l.waiting.items) l.room.brackets l.remaining) ≡ within 32 l.room.end l.room.turns l.room.brackets l.rest

abbrev pub decreases-nested_expression-loop-alloc : goal.decreases-nested_expression-loop-alloc
decreases-nested_expression-loop-alloc l = length l.remaining
