use Rattle.std.proofs.Common.{◌≡◌, ◌++◌, length}
use Rattle.std.specs.Prelude.{map}
use Rattle.sheet_meaning.specs.Statements.{workbook}
use Rattle.sheet_meaning.specs.Page.{part_of}
use Rattle.plain_meaning.specs.Pages.{as_part}
use Rattle.plain_meaning.proofs.showing.parts.Given as goal

abbrev pub decreases-loop-view : goal.decreases-loop-view
decreases-loop-view l = length l.rest

abbrev pub invariant-loop-view : goal.invariant-loop-view
invariant-loop-view l =
    map as_part l.list ++ map (part_of (workbook l.schema l.state) l.variables) l.rest ≡ map (part_of (workbook l.schema l.state) l.variables) l.views
