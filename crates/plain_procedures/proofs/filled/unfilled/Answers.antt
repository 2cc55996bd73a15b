use Rattle.sheet_meaning.specs.Statements.{workbook}
use Rattle.plain_meaning.proofs.Loops.{same_if_ok}
use Rattle.plain_procedures.proofs.Counting.{found_same}
use Rattle.plain_procedures.proofs.filled.unfilled.Goals as goal

pub returns : goal.returns
returns c =
    same_if_ok c.first_unfilled.result
    (found_same (workbook c.args.schema.now c.args.state.now) c.as_slice-2.result.now _ _ _ c.as_slice.ensures c.in_ok-among.ensures c.as_slice-3.ensures.value
    c.as_slice-2.ensures)
    c.first_unfilled.ensures
