use Rattle.std.proofs.Common.{◌≡◌, [], ◌++◌, length}
use Rattle.sheet_engine.specs.Seen.{workbook_in}
use Rattle.sheet_views.specs.Pages.{shown_in}
use Rattle.sheet_views.proofs.parts.shows.Given as goal

abbrev pub decreases-loop-slot : goal.decreases-loop-slot
decreases-loop-slot g l = length l.rest

abbrev pub invariant-loop-slot : goal.invariant-loop-slot
invariant-loop-slot g l =
    (l.shows ++ shown_in (workbook_in l.fn.engine) l.variables l.rest ≡ shown_in (workbook_in l.fn.engine) l.variables l.slots)
    × (l.engine.book ≡ l.fn.engine.book)
    × (l.engine.state ≡ l.fn.engine.state)
    × (l.fn.engine.kept ≡ [] → l.engine.kept ≡ [])
