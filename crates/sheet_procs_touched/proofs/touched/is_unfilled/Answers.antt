use Rattle.std.proofs.Common.{◌≡◌, sym, ap, ◌∙◌, rules, true, false, Some, None, length}
use Rattle.std.specs.Prelude.{◌&&◌, ◌==◌, not}
use Rattle.sheet_meaning.specs.Workbook.{object_at, column_in, set_in}
use Rattle.sheet_state.specs.Stored.{book}
use Rattle.sheet_procs_touched.proofs.OneCells.{by_column, open_by_column}
use Rattle.sheet_procs_touched.proofs.touched.is_unfilled.Goals as goal

pub returns-then-must_hold_one : goal.returns-then-must_hold_one
returns-then-must_hold_one c =
    let s = c.args.state.now.present.state in
    let w = book c.args.columns.now s in
    let is : column_in (object_at s.objects c.args.object) ≡ Some c.in-Some.above = search rules in
    let wanted : by_column w.schema (Some c.in-Some.above) c.args.column ≡ true = search rules in
    let size : c.len.result ≡ length (set_in s.cells c.args.object c.args.column) = c.len.ensures.len ∙ ap length c.cell.ensures in
    ap (λ n. not (n == 1)) size
    ∙ sym
    (open_by_column w c.requires.formed (c.args.object, c.args.column) (Some c.in-Some.above) is
    ∙ ap (λ b. b && not (length (set_in s.cells c.args.object c.args.column) == 1)) wanted)

pub returns-else-must_hold_one : goal.returns-else-must_hold_one
returns-else-must_hold_one c =
    let s = c.args.state.now.present.state in
    let w = book c.args.columns.now s in
    let is : column_in (object_at s.objects c.args.object) ≡ Some c.in-Some.above = search rules in
    let not_wanted : by_column w.schema (Some c.in-Some.above) c.args.column ≡ false = search rules in
    c.if-must_hold_one.false
    ∙ sym
    (open_by_column w c.requires.formed (c.args.object, c.args.column) (Some c.in-Some.above) is
    ∙ ap (λ b. b && not (length (set_in s.cells c.args.object c.args.column) == 1)) not_wanted)

pub returns-in-None : goal.returns-in-None
returns-in-None c =
    let s = c.args.state.now.present.state in
    let w = book c.args.columns.now s in
    let is : column_in (object_at s.objects c.args.object) ≡ None = search rules in
    sym (open_by_column w c.requires.formed (c.args.object, c.args.column) None is)
