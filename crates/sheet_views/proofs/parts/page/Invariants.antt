use Rattle.std.proofs.Common.{◌≡◌, [], ◌++◌, length}
use Rattle.std.specs.Prelude.{map}
use Rattle.sheet_meaning.specs.Page.{part_of}
use Rattle.sheet_engine.specs.Seen.{workbook_in}
use Rattle.sheet_views.proofs.parts.page.Given as goal

abbrev pub decreases-loop-view : goal.decreases-loop-view
decreases-loop-view g l = length l.rest

abbrev pub invariant-loop-view : goal.invariant-loop-view
invariant-loop-view g l =
    (l.page ++ map (part_of (workbook_in l.fn.engine) l.fn.variables) l.rest ≡ map (part_of (workbook_in l.fn.engine) l.fn.variables) l.views)
    × (l.variables ≡ l.fn.variables)
    × (l.engine.book ≡ l.fn.engine.book)
    × (l.engine.state ≡ l.fn.engine.state)
    × (l.fn.engine.kept ≡ [] → l.engine.kept ≡ [])
