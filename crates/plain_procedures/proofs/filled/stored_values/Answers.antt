use Rattle.std.proofs.Common.{arith}
use Rattle.plain_procedures.proofs.Counting.{values_more}
use Rattle.plain_procedures.proofs.filled.stored_values.Goals as goal

pub loop-cell-preserved : goal.loop-cell-preserved
loop-cell-preserved c = record {
  total = values_more c.args.cells.now c.loop-cell.cell-index c.loop-cell.total c.len.result c.cell-item.result c.loop-cell-test.true c.cell-item.is
      c.loop-cell.invariant.total c.len.ensures;
  few = omega arith;
}
