use Rattle.std.proofs.Common.{sym, subst}
use Rattle.sheet_books.specs.Schemas.{schema_of}
use Rattle.sheet_columns.specs.declared.statement.CoreStatement.{New}
use Rattle.sheet_meaning.specs.Statements.{run_statement, make}
use Rattle.sheet_procs.specs.Runs.{Runs}
use Rattle.sheet_procs.specs.Typed.{MayMake}
use Rattle.sheet_procs.proofs.Blocks.{new_known}
use Rattle.sheet_procs.proofs.Going.{ends_on}
use Rattle.sheet_procs.proofs.Typing.{may_make}
use Rattle.sheet_procs.proofs.changes.create.Goals as goal

pub add_object-requires : goal.add_object-requires
add_object-requires g c =
    let b = c.args.engine.now.book in
    let k = c.args.engine.now.state in
    let o = c.in_ok-object.object in
    let col = c.args.target.now.column in
    let may = may_make b k c.args.progress.now c.args.number c.args.target.now o c.requires c.in_ok-object.ensures.comes in
    subst (λ y. MayMake y c.object_of.new.engine.state o col) (sym c.in_ok-object.ensures.book)
    (subst (λ y. MayMake b y o col) (sym c.in_ok-object.ensures.state) may)

pub returns-clause-runs : goal.returns-clause-runs
returns-clause-runs g c =
    let b = c.args.engine.now.book in
    let k = c.args.engine.now.state in
    let l = c.object_of.new.engine.state in
    let m = c.args.progress.now in
    let o = c.in_ok-object.object in
    let t = c.args.target.now in
    ends_on b k l c.add_object.new.engine.state m m c.add_object.new.progress (run_statement (New c.args.number t) (schema_of b))
    (make (schema_of b) t.column o) c.add_object.result
    (new_known b k l c.in_ok-object.ensures.state m c.args.number t o c.in_ok-object.ensures.comes)
    (subst (λ y. Runs y l c.add_object.new.engine.state m c.add_object.new.progress c.add_object.result (make (schema_of y) t.column o))
    c.in_ok-object.ensures.book c.add_object.ensures.runs)
