use Rattle.std.proofs.Common.{◌<◌, ◌∙◌, length, sym, subst}
use Rattle.sheet_types_outline.specs.Columns.{objects_in}
use Rattle.sheet_types.specs.Elaboration.{last_kinds, book_of}
use Rattle.sheet_types.proofs.BookLemmas.{formulas_fit, objects_fit, made_by}
use Rattle.sheet_types.proofs.elaboration.elaborate.Goals as goal

pub settle-requires : goal.settle-requires
settle-requires c =
    let d = c.args.definition.now in
    let o = c.in_ok-outline.outline in
    formulas_fit d o (c.outlines_are_within.ensures d o c.requires c.in_ok-outline.ensures)

pub judge_all-requires-clause-counted : goal.judge_all-requires-clause-counted
judge_all-requires-clause-counted c =
    let d = c.args.definition.now in
    let o = c.in_ok-outline.outline in
    let columns = c.settle.new.columns in
    let fit = objects_fit d o (last_kinds d o) (c.outlines_are_within.ensures d o c.requires c.in_ok-outline.ensures) in
    subst (λ ds. length (objects_in ds) < length columns) (sym c.as_slice-declarations.ensures)
    (subst (λ ns. length (objects_in d.declarations) < length ns) (sym c.in_ok-settle.ensures.settled) fit)

pub new-requires : goal.new-requires
new-requires c =
    let d = c.args.definition.now in
    let o = c.in_ok-outline.outline in
    let columns = c.settle.new.columns in
    let s = c.in_ok-bodies.bodies in
    let made = made_by d o columns c.as_slice.result.now c.as_slice-declarations.result.now s c.in_ok-settle.ensures.settled
    (c.as_slice.ensures ∙ c.in_ok-kinds.ensures.kinds) c.as_slice-declarations.ensures c.in_ok-bodies.ensures in
    c.books_are_well_typed.ensures d o (book_of (record o { columns = columns }) s) c.requires c.in_ok-outline.ensures c.in_ok-settle.ensures.tree made
