use Rattle.std.proofs.Common.{◌≡◌, [], ◌++◌, length}
use Rattle.std.specs.Prelude.{map}
use Rattle.sheet_meaning.specs.Page.{row}
use Rattle.sheet_engine.specs.Seen.{workbook_in}
use Rattle.sheet_views.proofs.parts.rows.Given as goal

abbrev pub decreases-loop-value : goal.decreases-loop-value
decreases-loop-value g l = length l.rest

abbrev pub invariant-loop-value : goal.invariant-loop-value
invariant-loop-value g l =
    (l.rows ++ map (row (workbook_in l.fn.engine) l.fn.variables l.slots) l.rest ≡ map (row (workbook_in l.fn.engine) l.fn.variables l.slots) l.values)
    × (l.variables ≡ l.fn.variables)
    × (l.engine.book ≡ l.fn.engine.book)
    × (l.engine.state ≡ l.fn.engine.state)
    × (l.fn.engine.kept ≡ [] → l.engine.kept ≡ [])
