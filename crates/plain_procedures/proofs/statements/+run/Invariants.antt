use Rattle.std.proofs.Common.{◌≡◌, ◌+◌, ◌*◌, take, Ok}
use Rattle.sheet_columns.specs.declared.statement.CoreStatement.{size-CoreStatement}
use Rattle.sheet_meaning.specs.Statements.{run_statement, run_statements}
use Rattle.plain_procedures.specs.Points.{as_point}
use Rattle.plain_procedures.specs.Blocks.{turn}
use Rattle.plain_procedures.proofs.Going.{chain}
use Rattle.plain_procedures.proofs.statements.+run.Given as goal

abbrev pub decreases-run_statement : goal.decreases-run_statement
decreases-run_statement l = 4 * size-CoreStatement l.statement.now

abbrev pub decreases-run_statements : goal.decreases-run_statements
decreases-run_statements l = 4 * goal.size-run_statements l + 1

abbrev pub decreases-run_block : goal.decreases-run_block
decreases-run_block l = 4 * goal.size-run_block l + 2

abbrev pub decreases-run_turn : goal.decreases-run_turn
decreases-run_turn l = 4 * goal.size-run_turn l + 2

abbrev pub decreases-run_turns : goal.decreases-run_turns
decreases-run_turns l = 4 * goal.size-run_turns l + 3

abbrev pub invariant-run_statements-loop-statement : goal.invariant-run_statements-loop-statement
invariant-run_statements-loop-statement l =
    chain (λ x q. run_statement x l.schema q) (take l.statement-index l.statements) (as_point l.initial.point) ≡ Ok (as_point l.point)

abbrev pub invariant-run_turns-loop-value : goal.invariant-run_turns-loop-value
invariant-run_turns-loop-value l =
    chain (turn (run_statements l.body l.schema)) (take l.value-index l.values) (as_point l.initial.point) ≡ Ok (as_point l.point)
