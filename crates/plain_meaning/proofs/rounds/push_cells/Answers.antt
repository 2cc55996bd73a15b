use Rattle.std.proofs.Common.{ap, ◌∙◌, ◌++◌}
use Rattle.std.specs.Prelude.{map}
use Rattle.std.specs.List.{filter_map}
use Rattle.sheet_meaning.specs.Workbook.{formula_cell}
use Rattle.plain_lists.specs.Told.{scene}
use Rattle.plain_meaning.specs.Tables.{cell_run}
use Rattle.plain_meaning.proofs.Loops.{one_joined, picked_parts, one_picked}
use Rattle.plain_meaning.proofs.rounds.push_cells.Goals as goal

pub loop-formula-preserved : goal.loop-formula-preserved
loop-formula-preserved c =
    let g = cell_run (scene c.args.state.now c.args.cells.now) in
    let f = formula_cell c.args.schema.now c.args.object.now.number c.args.object.now.column in
    one_joined c.args.formulas.now c.loop-formula.formula-index c.formula-item.result c.loop-formula-test.true c.formula-item.is
    (λ fs. map g (filter_map f fs)) (picked_parts g f) c.args.list.now.items c.loop-formula.list.items c.push_cell.new.list.items c.loop-formula.invariant
    (c.in_ok-push_cell.ensures ∙ ap (λ l. c.loop-formula.list.items ++ l) (one_picked g f c.formula-item.result))
