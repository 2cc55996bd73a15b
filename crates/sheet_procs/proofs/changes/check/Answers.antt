use Rattle.std.proofs.Common.{ap, ◌∙◌, true, Ok, Err}
use Rattle.std.specs.Prelude.{if◌then◌else◌}
use Rattle.sheet_columns.specs.declared.statement.CoreStatement.{Check}
use Rattle.sheet_books.specs.Schemas.{schema_of}
use Rattle.sheet_meaning.specs.Statements.{run_statement}
use Rattle.sheet_meaning.specs.declared.refusal.Refusal.TheVariants.{CheckFailed}
use Rattle.sheet_procs.proofs.Blocks.{check_known}
use Rattle.sheet_procs.proofs.Changing.{passed}
use Rattle.sheet_procs.proofs.Going.{ends_on}
use Rattle.sheet_procs.proofs.changes.check.Goals as goal

pub returns-then-holds-clause-runs : goal.returns-then-holds-clause-runs
returns-then-holds-clause-runs g c =
    let b = c.args.engine.now.book in
    let k = c.args.engine.now.state in
    let l = c.truth_of.new.engine.state in
    let m = c.args.progress.now in
    let i = c.args.number in
    let message = c.args.message.now in
    ends_on b k l l m m m (run_statement (Check i c.args.condition.now message) (schema_of b)) (λ p. if true then Ok p else Err (CheckFailed i message)) (Ok tt)
    (check_known b k l c.in_ok-holds.ensures.state m i c.args.condition.now message true (c.in_ok-holds.ensures.comes ∙ ap Ok c.if-holds.true))
    (passed b l m i message)
