use Rattle.plain_meaning.proofs.Loops.{same_items_if_ok}
use Rattle.plain_meaning.proofs.TableLemmas.{settled_again}
use Rattle.sheet_meaning.specs.Statements.{workbook}
use Rattle.plain_meaning.proofs.reaching.settled_runs.Goals as goal

pub returns : goal.returns
returns c = same_items_if_ok c.run_cells.result (settled_again (workbook c.args.schema.now c.args.state.now) _ _ c.in_ok-cells.ensures c.as_slice.ensures.value)
    c.run_cells.ensures
