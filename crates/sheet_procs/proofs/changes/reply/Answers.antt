use Rattle.std.proofs.Common.{◌≡◌, false, Ok, rules}
use Rattle.std.specs.Prelude.{nat_lt, sum_by}
use Rattle.sheet_columns.specs.declared.statement.CoreStatement.{Reply}
use Rattle.sheet_books.specs.Schemas.{schema_of}
use Rattle.sheet_meaning.specs.Statements.{run_statement, answer, value_weight, max_reply}
use Rattle.sheet_procs.proofs.Blocks.{reply_known}
use Rattle.sheet_procs.proofs.Changing.{answered}
use Rattle.sheet_procs.proofs.Going.{ends_on}
use Rattle.sheet_procs.proofs.changes.reply.Goals as goal

pub returns-clause-runs : goal.returns-clause-runs
returns-clause-runs g c =
    let b = c.args.engine.now.book in
    let k = c.args.engine.now.state in
    let l = c.set_of.new.engine.state in
    let m = c.args.progress.now in
    let set = c.in_ok-set.set in
    let light : nat_lt max_reply (sum_by value_weight set) ≡ false = search rules in
    ends_on b k l l m m _ (run_statement (Reply c.args.number c.args.value.now) (schema_of b)) (answer set) (Ok tt)
    (reply_known b k l c.in_ok-set.ensures.state m c.args.number c.args.value.now set c.in_ok-set.ensures.comes) (answered b l m set light)
