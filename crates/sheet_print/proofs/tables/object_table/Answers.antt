use Rattle.std.proofs.Common.{rules, ◌≡◌, sym, ap, ◌∙◌, subst, ◌++◌, length}
use Rattle.sheet_columns.specs.Tree.{column_of}
use Rattle.sheet_engine.specs.Seen.{workbook_in}
use Rattle.sheet_print.specs.Books.{cells_under, objects_of, table_below, table_in, title}
use Rattle.sheet_print.specs.Shown.{HaveCells}
use Rattle.sheet_print.proofs.tables.object_table.Goals as goal

pub add_table-requires-clause-cells : goal.add_table-requires-clause-cells
add_table-requires-clause-cells g c =
    let nodes = c.args.columns.now in
    let xs = c.args.engine.now.state.present.state.objects in
    let cells : c.as_slice.result.now ≡ cells_under nodes c.args.column = search rules in
    let objects : c.as_slice-2.result.now ≡ objects_of xs c.args.column = search rules in
    subst (λ os. HaveCells nodes xs c.as_slice.result.now os) (sym objects)
    (subst (λ cs. HaveCells nodes xs cs (objects_of xs c.args.column)) (sym cells) c.in_ok-objects.ensures.cells)

pub returns-clause-text : goal.returns-clause-text
returns-clause-text g c =
    let w = workbook_in c.args.engine.now in
    let nodes = c.args.columns.now in
    let k = c.args.column in
    let os = objects_of w.state.objects k in
    let cells : c.as_slice.result.now ≡ cells_under nodes k = search rules in
    let objects : c.as_slice-2.result.now ≡ os = search rules in
    let titled : c.add_title.new.out.items ≡ title nodes k (length os) = search rules in
    c.in_ok-add_table.ensures.text
    ∙ ap (λ l. l ++ table_below w c.as_slice.result.now c.as_slice-2.result.now) titled
    ∙ ap (λ l. title nodes k (length os) ++ table_below w l c.as_slice-2.result.now) cells
    ∙ ap (λ l. title nodes k (length os) ++ table_below w (cells_under nodes k) l) objects
    ∙ ap (λ ns. title ns k (length os) ++ table_below w (cells_under ns k) os) c.requires.columns
    ∙ ap (table_in w k) (sym (sym (ap (λ ns. column_of ns k) c.requires.columns) ∙ c.requires.object_column))
