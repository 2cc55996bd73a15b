use Rattle.std.proofs.Common.{◌≡◌, ◌++◌, length}
use Rattle.std.specs.List.{flat_map}
use Rattle.sheet_meaning.specs.Statements.{workbook}
use Rattle.sheet_meaning.specs.Page.{row_uses}
use Rattle.plain_meaning.proofs.resting.push_rows_uses.Given as goal

abbrev pub decreases-loop-value : goal.decreases-loop-value
decreases-loop-value l = length l.rest

abbrev pub invariant-loop-value : goal.invariant-loop-value
invariant-loop-value l =
    l.uses ++ flat_map (row_uses (workbook l.schema l.state) l.variables l.slots) l.rest ≡ l.fn.uses ++ flat_map
    (row_uses (workbook l.schema l.state) l.variables l.slots) l.values
