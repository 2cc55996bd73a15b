use Rattle.std.proofs.Common.{sym, subst}
use Rattle.std.specs.List.{filter_map}
use Rattle.sheet_books.specs.Schemas.{schema_of}
use Rattle.sheet_columns.specs.declared.statement.CoreStatement.{Delete}
use Rattle.sheet_meaning.specs.Formula.{object_in}
use Rattle.sheet_meaning.specs.Statements.{run_statement, remove_all}
use Rattle.sheet_procs.specs.Runs.{Runs}
use Rattle.sheet_procs.specs.Typed.{MayDelete}
use Rattle.sheet_procs.proofs.Blocks.{delete_known}
use Rattle.sheet_procs.proofs.Going.{ends_on}
use Rattle.sheet_procs.proofs.Typing.{may_delete}
use Rattle.sheet_procs.proofs.changes.delete.Goals as goal

pub take_away-requires : goal.take_away-requires
take_away-requires g c =
    let b = c.args.engine.now.book in
    let k = c.args.engine.now.state in
    let set = c.in_ok-set.set in
    let may = may_delete b k c.args.progress.now c.args.number c.args.objects.now set c.requires c.in_ok-set.ensures.comes in
    subst (λ y. MayDelete y c.set_of.new.engine.state set) (sym c.in_ok-set.ensures.book)
    (subst (λ y. MayDelete b y set) (sym c.in_ok-set.ensures.state) may)

pub returns-clause-runs : goal.returns-clause-runs
returns-clause-runs g c =
    let b = c.args.engine.now.book in
    let k = c.args.engine.now.state in
    let l = c.set_of.new.engine.state in
    let m = c.args.progress.now in
    let set = c.in_ok-set.set in
    ends_on b k l c.take_away.new.engine.state m m c.take_away.new.progress (run_statement (Delete c.args.number c.args.objects.now) (schema_of b))
    (λ p. (remove_all (schema_of b) p (filter_map object_in set)).end) c.take_away.result
    (delete_known b k l c.in_ok-set.ensures.state m c.args.number c.args.objects.now set c.in_ok-set.ensures.comes)
    (subst (λ y. Runs y l c.take_away.new.engine.state m c.take_away.new.progress c.take_away.result
    (λ p. (remove_all (schema_of y) p (filter_map object_in set)).end)) c.in_ok-set.ensures.book c.take_away.ensures.runs)
