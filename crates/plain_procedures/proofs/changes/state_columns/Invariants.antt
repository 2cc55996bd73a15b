use Rattle.std.proofs.Common.{◌≡◌, ◌++◌, drop}
use Rattle.plain_procedures.specs.Columns.{columns_under}
use Rattle.plain_procedures.proofs.ColumnLemmas.{columns_from}
use Rattle.plain_procedures.proofs.changes.state_columns.Given as goal

abbrev pub invariant-loop-number : goal.invariant-loop-number
invariant-loop-number l = l.list.items ++ columns_from l.columns l.above l.number (drop l.number l.columns) ≡ columns_under l.columns l.above
