use Rattle.std.proofs.Common.{◌≡◌, ◌++◌, length}
use Rattle.sheet_meaning.specs.Statements.{workbook}
use Rattle.plain_meaning.specs.Pages.{slots_used}
use Rattle.plain_meaning.proofs.resting.push_row_uses.Given as goal

abbrev pub decreases-loop-slot : goal.decreases-loop-slot
decreases-loop-slot l = length l.rest

abbrev pub invariant-loop-slot : goal.invariant-loop-slot
invariant-loop-slot l = l.uses ++ slots_used (workbook l.schema l.state) l.bound l.rest ≡ l.fn.uses ++ slots_used (workbook l.schema l.state) l.bound l.slots
