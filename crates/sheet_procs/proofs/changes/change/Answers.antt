use Rattle.std.proofs.Common.{sym, subst}
use Rattle.sheet_books.specs.Schemas.{schema_of}
use Rattle.sheet_columns.specs.declared.statement.CoreStatement.{Change}
use Rattle.sheet_meaning.specs.Statements.{run_statement, store}
use Rattle.sheet_procs.specs.Runs.{Runs}
use Rattle.sheet_procs.specs.Typed.{MayStore}
use Rattle.sheet_procs.proofs.Blocks.{change_known}
use Rattle.sheet_procs.proofs.Going.{ends_on}
use Rattle.sheet_procs.proofs.Typing.{may_store}
use Rattle.sheet_procs.proofs.changes.change.Goals as goal

pub put-requires : goal.put-requires
put-requires g c =
    let b = c.args.engine.now.book in
    let k = c.args.engine.now.state in
    let o = c.in_ok-object.object in
    let set = c.in_ok-object.set in
    let col = c.args.target.now.column in
    let may = may_store b k c.args.progress.now c.args.number c.args.how c.args.target.now c.args.value.now o set c.requires c.in_ok-object.ensures.comes in
    subst (λ y. MayStore y c.object_and_set.new.engine.state c.args.how o col set) (sym c.in_ok-object.ensures.book)
    (subst (λ y. MayStore b y c.args.how o col set) (sym c.in_ok-object.ensures.state) may)

pub returns-clause-runs : goal.returns-clause-runs
returns-clause-runs g c =
    let b = c.args.engine.now.book in
    let k = c.args.engine.now.state in
    let l = c.object_and_set.new.engine.state in
    let m = c.args.progress.now in
    let o = c.in_ok-object.object in
    let set = c.in_ok-object.set in
    let t = c.args.target.now in
    ends_on b k l c.put.new.engine.state m m c.put.new.progress (run_statement (Change c.args.number c.args.how t c.args.value.now) (schema_of b))
    (store (schema_of b) c.args.how o t.column set) c.put.result
    (change_known b k l c.in_ok-object.ensures.state m c.args.number c.args.how t c.args.value.now o set c.in_ok-object.ensures.comes)
    (subst (λ y. Runs y l c.put.new.engine.state m c.put.new.progress c.put.result (store (schema_of y) c.args.how o t.column set))
    c.in_ok-object.ensures.book c.put.ensures.runs)
