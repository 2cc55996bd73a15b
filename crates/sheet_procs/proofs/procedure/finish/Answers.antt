use Rattle.std.proofs.Common.{◌≡◌, ap, sym, ◌∙◌, subst, List, Some, length, rules}
use Rattle.sheet_books.specs.declared.book.Contents.{Contents}
use Rattle.sheet_books.specs.Schemas.{schema_of}
use Rattle.sheet_columns.specs.declared.tree.Node.{Node}
use Rattle.sheet_meaning.specs.Statements.{workbook}
use Rattle.sheet_meaning.specs.WellFormed.{IsWellFormed, unfilled}
use Rattle.sheet_meaning.specs.Workbook.{set_in}
use Rattle.sheet_state.specs.Stored.{Stored, book}
use Rattle.sheet_procs.specs.Runs.{point}
use Rattle.sheet_procs.proofs.Starting.{not_tested}
use Rattle.sheet_procs.proofs.procedure.finish.Goals as goal

pub first_unfilled-requires-clause-formed : goal.first_unfilled-requires-clause-formed
first_unfilled-requires-clause-formed c =
    let columns : c.columns.result.now ≡ c.args.engine.now.book.columns = c.columns.ensures.columns ∙ ap (λ (x : Contents). x.columns) c.book.ensures in
    subst (λ (y : Stored). IsWellFormed (book c.columns.result.now y.present.state)) (sym c.state-state.ensures.state)
    (subst (λ n. IsWellFormed (book n c.args.engine.now.state.present.state)) (sym columns) c.state-state.ensures.served.kept.present.well_formed)

pub returns : goal.returns
returns c =
    let k = c.args.engine.now.state in
    let b = c.args.engine.now.book in
    let o = c.in-Some.object in
    let col = c.in-Some.column in
    let columns : c.columns.result.now ≡ b.columns = c.columns.ensures.columns ∙ ap (λ (x : Contents). x.columns) c.book.ensures in
    let found : unfilled (book c.columns.result.now c.state-state.result.now.present.state) ≡ Some (o, col) = search rules in
    let here : unfilled (workbook (schema_of b) k.present.state) ≡ Some (o, col) =
    subst (λ (n : List Node). unfilled (book n k.present.state) ≡ Some (o, col)) columns
    (subst (λ (y : Stored). unfilled (book c.columns.result.now y.present.state) ≡ Some (o, col)) c.state-state.ensures.state found) in
    let count : c.len-count.result ≡ length (set_in k.present.state.cells o col) =
    c.len-count.ensures.len ∙ ap length (c.cell.ensures ∙ ap (λ (y : Stored). set_in y.present.state.cells o col) c.state-state.ensures.state) in
    λ kept. not_tested (schema_of b) (point k c.args.progress kept) o col c.len-count.result here count
