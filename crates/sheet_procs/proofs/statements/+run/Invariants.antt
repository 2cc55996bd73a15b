use Rattle.std.proofs.Common.{◌≡◌, ◌+◌, ◌*◌, drop}
use Rattle.sheet_books.specs.Schemas.{schema_of}
use Rattle.sheet_meaning.specs.Statements.{run_statements, course_statements, course_turns}
use Rattle.sheet_types_rules.specs.Statements.{behind_list}
use Rattle.sheet_procs.specs.Typed.{MayRun, MayTurn}
use Rattle.sheet_procs.proofs.Going.{UnderWay}
use Rattle.sheet_procs.proofs.Sizes.{heft, heft_list}
use Rattle.sheet_procs.proofs.statements.+run.Given as goal

abbrev pub decreases-run_statement : goal.decreases-run_statement
decreases-run_statement g l = 5 * heft l.statement.now

abbrev pub decreases-run_statements : goal.decreases-run_statements
decreases-run_statements g l = 5 * heft_list l.statements.now + 1

abbrev pub decreases-run_block : goal.decreases-run_block
decreases-run_block g l = 5 * heft_list l.body.now + 2

abbrev pub decreases-run_turn : goal.decreases-run_turn
decreases-run_turn g l = 5 * heft_list l.body.now + 2

abbrev pub decreases-run_turns : goal.decreases-run_turns
decreases-run_turns g l = 5 * heft_list l.body.now + 3

abbrev pub decreases-run_choice : goal.decreases-run_choice
decreases-run_choice g l = 5 * (heft_list l.body.now + heft_list l.otherwise.now) + 3

abbrev pub decreases-run_loop : goal.decreases-run_loop
decreases-run_loop g l = 5 * heft_list l.body.now + 4

abbrev pub invariant-run_statements-loop-statement : goal.invariant-run_statements-loop-statement
invariant-run_statements-loop-statement g l = record {
  book : l.engine.book ≡ l.fn.engine.book;
  way : UnderWay l.fn.engine.book l.fn.engine.state l.engine.state l.fn.progress l.progress
      (run_statements l.statements (schema_of l.fn.engine.book)) (run_statements (drop l.statement-index l.statements) (schema_of l.fn.engine.book));
  may : MayRun (behind_list (drop l.statement-index l.statements)) l.fn.engine.book l.engine.state l.progress;
}

abbrev pub invariant-run_turns-loop-value : goal.invariant-run_turns-loop-value
invariant-run_turns-loop-value g l = record {
  book : l.engine.book ≡ l.fn.engine.book;
  way : UnderWay l.fn.engine.book l.fn.engine.state l.engine.state l.fn.progress l.progress
      (λ p. (course_turns (course_statements l.body (schema_of l.fn.engine.book)) l.values p).end)
      (λ p. (course_turns (course_statements l.body (schema_of l.fn.engine.book)) (drop l.value-index l.values) p).end);
  may : MayTurn l.body (drop l.value-index l.values) l.fn.engine.book l.engine.state l.progress;
}
