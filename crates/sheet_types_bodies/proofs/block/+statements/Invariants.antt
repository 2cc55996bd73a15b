use Rattle.std.proofs.Common.{◌≡◌, ◌+◌, ◌*◌, drop}
use Rattle.std.specs.Prelude.{max}
use Rattle.sheet_columns.specs.Statements.{statements_in}
use Rattle.sheet_define_data.specs.declared.statement.Statement.{size-Statement}
use Rattle.sheet_types_bodies.specs.Calls.{here, Begins}
use Rattle.sheet_types_bodies.specs.Statements.{in_block}
use Rattle.sheet_types_bodies.proofs.Blocks.{rest_of_block}
use denote.Param.Weighed
use Rattle.sheet_types_bodies.proofs.block.+statements.Given as goal

abbrev pub decreases-statement : goal.decreases-statement
decreases-statement l = 5 * size-Statement l.written.now

abbrev pub decreases-if_statement : goal.decreases-if_statement
decreases-if_statement l = 5 * goal.size-if_statement l + 4

abbrev pub decreases-if_else_statement : goal.decreases-if_else_statement
decreases-if_else_statement l = 5 * max (Weighed.most size-Statement l.body.now) (Weighed.most size-Statement l.otherwise.now) + 4

abbrev pub decreases-for_statement : goal.decreases-for_statement
decreases-for_statement l = 5 * goal.size-for_statement l + 4

abbrev pub decreases-guarded : goal.decreases-guarded
decreases-guarded l = 5 * goal.size-guarded l + 3

abbrev pub decreases-block : goal.decreases-block
decreases-block l = 5 * goal.size-block l + 2

abbrev pub decreases-in_order : goal.decreases-in_order
decreases-in_order l = 5 * goal.size-in_order l + 1

abbrev pub invariant-in_order-loop-one : goal.invariant-in_order-loop-one
invariant-in_order-loop-one l =
    (in_block l.written (here l.sheet l.fn.variables.items) l.fn.number ≡ rest_of_block (statements_in l.statements) (drop l.one-index l.written)
    (here l.sheet l.variables.items) l.next)
    × Begins l.fn.variables.items l.variables.items
