use Rattle.std.proofs.Common.{◌<◌, length, arith}
use Rattle.plain_procedures.proofs.ColumnLemmas.{columns_step}
use Rattle.plain_procedures.proofs.changes.state_columns.Goals as goal

pub loop-number-preserved : goal.loop-number-preserved
loop-number-preserved c =
    let lt : c.loop-number.number < length c.args.columns.now = omega arith in
    columns_step c.args.columns.now c.args.above c.loop-number.number c.loop-number.list.items c.push_column.new.list.items _ lt c.loop-number.invariant
    c.in_ok-push_column.ensures
