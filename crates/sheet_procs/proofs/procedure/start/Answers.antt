use Rattle.std.proofs.Common.{◌≡◌, ap, ◌∙◌, subst}
use Rattle.sheet_books.specs.declared.book.Contents.{Contents}
use Rattle.sheet_columns.specs.Tree.{IsTree}
use Rattle.sheet_procs.proofs.Starting.{may_begin}
use Rattle.sheet_procs.proofs.procedure.start.Goals as goal

pub returns-clause-may : goal.returns-clause-may
returns-clause-may c =
    let b = c.args.engine.now.book in
    let columns : c.columns.result.now ≡ b.columns = c.columns.ensures.columns ∙ ap (λ (x : Contents). x.columns) c.book.ensures in
    λ p typed fit calls. may_begin b c.args.engine.now.state p c.args.caller c.args.arguments.now c.state.ensures.served
    (subst IsTree columns c.count.ensures.tree) typed calls fit

pub returns-in_err-variables-clause-may : goal.returns-in_err-variables-clause-may
returns-in_err-variables-clause-may c =
    let b = c.args.engine.now.book in
    let columns : c.columns.result.now ≡ b.columns = c.columns.ensures.columns ∙ ap (λ (x : Contents). x.columns) c.book.ensures in
    λ p typed fit calls. may_begin b c.args.engine.now.state p c.args.caller c.args.arguments.now c.state.ensures.served
    (subst IsTree columns c.count.ensures.tree) typed calls fit
