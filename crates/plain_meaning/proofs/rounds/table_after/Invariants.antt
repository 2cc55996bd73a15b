use Rattle.std.proofs.Common.{◌≡◌}
use Rattle.sheet_meaning.specs.Rounds.{table}
use Rattle.plain_meaning.specs.Tables.{cells_with}
use Rattle.sheet_meaning.specs.Statements.{workbook}
use Rattle.plain_meaning.proofs.rounds.table_after.Given as goal

abbrev pub invariant-loop-round : goal.invariant-loop-round
invariant-loop-round l = l.cells.items ≡ cells_with (workbook l.schema l.state) (table (workbook l.schema l.state) l.round)
