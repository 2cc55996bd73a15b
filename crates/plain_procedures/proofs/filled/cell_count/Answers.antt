use Rattle.sheet_meaning.specs.Statements.{workbook}
use Rattle.plain_procedures.proofs.Counting.{counts_same}
use Rattle.plain_procedures.proofs.filled.cell_count.Goals as goal

pub returns : goal.returns
returns c =
    counts_same (workbook c.args.schema.now c.args.state.now) _ c.as_slice.result.now _ _ _ _ c.as_slice.ensures c.in_ok-stored.ensures
    c.as_slice-stored.ensures.value
    c.in_ok-runs.ensures c.as_slice-runs.ensures.value
