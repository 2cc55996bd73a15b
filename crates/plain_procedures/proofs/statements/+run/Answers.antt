use Rattle.std.proofs.Common.{sym, ap, ◌∙◌, Ok, Err}
use Rattle.sheet_meaning.specs.Statements.{run_statement, run_statements}
use Rattle.plain_procedures.specs.Points.{as_point}
use Rattle.plain_procedures.specs.Blocks.{turn}
use Rattle.plain_procedures.proofs.Going.{same_end, statements_chain, turns_chain, chain_more, chain_ends, chain_all}
use Rattle.plain_procedures.proofs.Inner.{branch_then, branch_else, for_turns}
use Rattle.plain_procedures.proofs.statements.+run.Goals as goal

pub run_statement-returns-then-holds : goal.run_statement-returns-then-holds
run_statement-returns-then-holds t c =
    branch_then c.args.schema.now c.in-If.number c.in-If.condition c.args.statement.now (as_point c.args.point) c.in_ok-holds-in-If.point c.run_block.result
    c.in-If.body c.in-If.otherwise c.in_ok-holds-in-If.holds c.as_slice.result.now c.in-If.is c.in_ok-holds-in-If.ensures c.if-holds.true c.as_slice.ensures
    c.run_block.ensures

pub run_statement-returns-else-holds : goal.run_statement-returns-else-holds
run_statement-returns-else-holds t c =
    branch_else c.args.schema.now c.in-If.number c.in-If.condition c.args.statement.now (as_point c.args.point) c.in_ok-holds-in-If.point
    c.run_block-else-holds.result c.in-If.body c.in-If.otherwise c.in_ok-holds-in-If.holds c.as_slice-else-holds.result.now c.in-If.is
    c.in_ok-holds-in-If.ensures c.if-holds.false c.as_slice-else-holds.ensures c.run_block-else-holds.ensures

pub run_statement-returns-in_ok-set-in-For : goal.run_statement-returns-in_ok-set-in-For
run_statement-returns-in_ok-set-in-For t c =
    for_turns c.args.schema.now c.in-For.number c.in-For.source c.args.statement.now (as_point c.args.point) c.in_ok-set-in-For.point c.run_turns.result
    c.in-For.body c.in_ok-set-in-For.set c.as_slice-in-For-2.result.now c.as_slice-in-For.result.now c.in-For.is c.in_ok-set-in-For.ensures
    c.as_slice-in-For.ensures c.as_slice-in-For-2.ensures c.run_turns.ensures

pub run_statements-returns-in-Err : goal.run_statements-returns-in-Err
run_statements-returns-in-Err t c =
    let s = c.args.schema.now in
    let xs = c.args.statements.now in
    let p = as_point c.args.point in
    same_end (Err c.in-Err.stop) (sym (statements_chain xs s p))
    (chain_ends (λ x q. run_statement x s q) xs c.loop-statement.statement-index c.statement-item.result c.loop-statement-test.true c.statement-item.is p
    c.loop-statement.point c.loop-statement.invariant c.in-Err.stop c.in-Err.ensures)

pub run_statements-loop-statement-preserved : goal.run_statements-loop-statement-preserved
run_statements-loop-statement-preserved t c =
    let s = c.args.schema.now in
    chain_more (λ x q. run_statement x s q) c.args.statements.now c.loop-statement.statement-index c.statement-item.result c.loop-statement-test.true
    c.statement-item.is (as_point c.args.point) c.loop-statement.point c.loop-statement.invariant c.in-Ok.next c.in-Ok.ensures

pub run_statements-returns : goal.run_statements-returns
run_statements-returns t c =
    let s = c.args.schema.now in
    let xs = c.args.statements.now in
    let p = as_point c.args.point in
    statements_chain xs s p ∙ chain_all (λ x q. run_statement x s q) xs c.loop-statement.statement-index p (Ok (as_point c.loop-statement.point))
    c.loop-statement-test.false c.loop-statement.invariant

pub run_turns-returns-in-Err : goal.run_turns-returns-in-Err
run_turns-returns-in-Err t c =
    let body = run_statements c.args.body.now c.args.schema.now in
    let xs = c.args.values.now in
    let p = as_point c.args.point in
    same_end (Err c.in-Err.stop) (sym (turns_chain body xs p))
    (chain_ends (turn body) xs c.loop-value.value-index c.value-item.result c.loop-value-test.true c.value-item.is p c.loop-value.point c.loop-value.invariant
    c.in-Err.stop c.in-Err.ensures)

pub run_turns-loop-value-preserved : goal.run_turns-loop-value-preserved
run_turns-loop-value-preserved t c =
    let body = run_statements c.args.body.now c.args.schema.now in
    chain_more (turn body) c.args.values.now c.loop-value.value-index c.value-item.result c.loop-value-test.true c.value-item.is (as_point c.args.point)
    c.loop-value.point c.loop-value.invariant c.in-Ok.next c.in-Ok.ensures

pub run_turns-returns : goal.run_turns-returns
run_turns-returns t c =
    let body = run_statements c.args.body.now c.args.schema.now in
    let xs = c.args.values.now in
    let p = as_point c.args.point in
    turns_chain body xs p ∙ chain_all (turn body) xs c.loop-value.value-index p (Ok (as_point c.loop-value.point)) c.loop-value-test.false
    c.loop-value.invariant

pub run_statement-returns-in-Change : goal.run_statement-returns-in-Change
run_statement-returns-in-Change t c =
    same_end c.change.result (sym (ap (λ x. run_statement x c.args.schema.now (as_point c.args.point)) c.in-Change.is)) c.change.ensures

pub run_statement-returns-in-New : goal.run_statement-returns-in-New
run_statement-returns-in-New t c =
    same_end c.create.result (sym (ap (λ x. run_statement x c.args.schema.now (as_point c.args.point)) c.in-New.is)) c.create.ensures

pub run_statement-returns-in-Check : goal.run_statement-returns-in-Check
run_statement-returns-in-Check t c =
    same_end c.check.result (sym (ap (λ x. run_statement x c.args.schema.now (as_point c.args.point)) c.in-Check.is)) c.check.ensures
