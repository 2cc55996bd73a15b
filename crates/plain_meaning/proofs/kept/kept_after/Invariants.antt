use Rattle.std.proofs.Common.{◌≡◌, ◌++◌, length}
use Rattle.sheet_meaning.specs.Statements.{workbook}
use Rattle.sheet_meaning.specs.Kept.{kept_after}
use Rattle.plain_meaning.proofs.kept.kept_after.Given as goal

abbrev pub decreases-loop-cell : goal.decreases-loop-cell
decreases-loop-cell l = length l.rest

abbrev pub invariant-loop-cell : goal.invariant-loop-cell
invariant-loop-cell l =
    l.list.items ++ kept_after (workbook l.schema l.before) (workbook l.schema l.after) l.rest
    ≡ kept_after (workbook l.schema l.before) (workbook l.schema l.after) l.kept
