use Rattle.std.proofs.Common.{rules, ◌≡◌, sym, ap, ◌∙◌, [], ◌∷◌, ◌++◌, cond}
use Rattle.sheet_print.specs.Books.{is_cell_under, cells_under}
use Rattle.sheet_print.proofs.Listed.{filter_more, cells_counted}
use Rattle.sheet_print.proofs.columns.cells_under.Goals as goal

pub loop-column-preserved : goal.loop-column-preserved
loop-column-preserved c =
    let test = is_cell_under c.args.columns.now c.args.above in
    let k = c.loop-column.column in
    c.in_ok-add_cell.ensures ∙ ap (λ l. l ++ cond (test k) (k ∷ []) []) c.loop-column.invariant ∙ sym (filter_more test k)

pub returns-clause-counted : goal.returns-clause-counted
returns-clause-counted c =
    let all : c.loop-column.cells.items ≡ cells_under c.args.columns.now c.args.above = search rules in
    cells_counted c.args.columns.now c.args.above c.loop-column.cells.items all
