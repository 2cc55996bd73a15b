use Rattle.std.proofs.Common.{sym, subst, Err, Ok}
use Rattle.sheet_books.specs.Schemas.{schema_of}
use Rattle.sheet_columns.specs.Statements.{statements_in}
use Rattle.sheet_meaning.specs.Procedure.{test_filled}
use Rattle.sheet_meaning.specs.Statements.{workbook, run_statements}
use Rattle.sheet_types_rules.specs.Statements.{behind_list}
use Rattle.sheet_procs_touched.specs.Touched.{Covers}
use Rattle.sheet_procs.specs.Performing.{Closes}
use Rattle.sheet_procs.specs.Runs.{Runs}
use Rattle.sheet_procs.specs.Typed.{MayRun}
use Rattle.sheet_procs.proofs.Performing.{then_performed, refused_performed, closing}
use Rattle.sheet_procs.proofs.procedure.perform.Goals as goal

pub run_statements-requires : goal.run_statements-requires
run_statements-requires g c =
    subst (λ xs. MayRun (behind_list xs) c.args.engine.now.book c.args.engine.now.state c.args.progress) (sym c.as_slice.ensures) c.requires.may

pub finish-requires : goal.finish-requires
finish-requires g c =
    subst (λ y. Covers (workbook (schema_of y) c.run_statements.new.engine.state.present.state) c.run_statements.new.progress.touched)
    (sym c.in-Ok.ensures.book) (c.in-Ok.ensures.runs.covered c.requires.covered)

pub returns-in-Ok-clause-performed : goal.returns-in-Ok-clause-performed
returns-in-Ok-clause-performed g c =
    let b = c.args.engine.now.book in
    let k = c.args.engine.now.state in
    let l = c.run_statements.new.engine.state in
    let m = c.args.progress in
    let n = c.run_statements.new.progress in
    let s = schema_of b in
    let r = c.finish.result in
    then_performed b k l l m n (run_statements (statements_in c.args.procedure.now.body) s) (test_filled s) r
    (subst (λ xs. Runs b k l m n (Ok tt) (run_statements xs s)) c.as_slice.ensures c.in-Ok.ensures.runs)
    (closing b l n r (subst (λ y. Closes r y l n) c.in-Ok.ensures.book c.finish.ensures))

pub returns-in-Err-clause-performed : goal.returns-in-Err-clause-performed
returns-in-Err-clause-performed g c =
    let b = c.args.engine.now.book in
    let k = c.args.engine.now.state in
    let l = c.run_statements.new.engine.state in
    let m = c.args.progress in
    let n = c.run_statements.new.progress in
    let s = schema_of b in
    refused_performed b k l m n (run_statements (statements_in c.args.procedure.now.body) s) (test_filled s) c.in-Err.refusal
    (subst (λ xs. Runs b k l m n (Err c.in-Err.refusal) (run_statements xs s)) c.as_slice.ensures c.in-Err.ensures.runs)
