use Rattle.std.proofs.Common.{ap, ◌∙◌}
use Rattle.plain_lists.specs.Told.{scene}
use Rattle.plain_meaning.specs.Tables.{cell_runs}
use Rattle.plain_meaning.proofs.TableLemmas.{first_cells, more_cells}
use Rattle.sheet_meaning.specs.Statements.{workbook}
use Rattle.plain_meaning.proofs.rounds.table_after.Goals as goal

pub loop-round-init : goal.loop-round-init
loop-round-init c = c.in_ok-cells.ensures ∙ first_cells (workbook c.args.schema.now c.args.state.now) _ _ c.in_ok-run_cells.ensures

pub loop-round-preserved : goal.loop-round-preserved
loop-round-preserved c =
    c.in_ok-cells-2.ensures ∙ more_cells (workbook c.args.schema.now c.args.state.now) c.loop-round.round c.loop-round.cells.items _ c.loop-round.invariant
    (c.in_ok-runs.ensures ∙ ap (λ l. cell_runs (workbook c.args.schema.now c.args.state.now) (scene c.args.state.now l)) c.as_slice.ensures.value)
