use Rattle.std.proofs.Common.{Ok}
use Rattle.sheet_columns.specs.declared.statement.CoreStatement.{Let}
use Rattle.sheet_books.specs.Schemas.{schema_of}
use Rattle.sheet_meaning.specs.Statements.{run_statement, with_variable}
use Rattle.sheet_procs.proofs.Blocks.{let_known}
use Rattle.sheet_procs.proofs.Changing.{bound}
use Rattle.sheet_procs.proofs.Going.{ends_on}
use Rattle.sheet_procs.proofs.changes.bind.Goals as goal

pub returns-clause-runs : goal.returns-clause-runs
returns-clause-runs g c =
    let b = c.args.engine.now.book in
    let k = c.args.engine.now.state in
    let l = c.set_of.new.engine.state in
    let m = c.args.progress.now in
    let set = c.in_ok-set.set in
    ends_on b k l l m m _ (run_statement (Let c.args.number c.args.value.now) (schema_of b)) (λ p. Ok (with_variable p set)) (Ok tt)
    (let_known b k l c.in_ok-set.ensures.state m c.args.number c.args.value.now set c.in_ok-set.ensures.comes)
    (bound b l m c.push.new.self set c.in_ok-push.ensures.ok)
