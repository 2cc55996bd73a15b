use Rattle.std.proofs.Common.{◌≡◌, ◌++◌, length}
use Rattle.std.specs.Prelude.{map}
use Rattle.sheet_meaning.specs.Statements.{workbook}
use Rattle.sheet_meaning.specs.Page.{row}
use Rattle.plain_meaning.specs.Pages.{as_row}
use Rattle.plain_meaning.proofs.showing.rows.Given as goal

abbrev pub decreases-loop-value : goal.decreases-loop-value
decreases-loop-value l = length l.rest

abbrev pub invariant-loop-value : goal.invariant-loop-value
invariant-loop-value l =
    map as_row l.list ++ map (row (workbook l.schema l.state) l.variables l.slots) l.rest ≡ map (row (workbook l.schema l.state) l.variables l.slots) l.values
