use Rattle.std.proofs.Common.{◌≡◌, ◌++◌, length}
use Rattle.std.specs.List.{flat_map}
use Rattle.sheet_meaning.specs.Statements.{workbook}
use Rattle.sheet_meaning.specs.Page.{part_uses}
use Rattle.plain_meaning.proofs.resting.push_parts_uses.Given as goal

abbrev pub decreases-loop-view : goal.decreases-loop-view
decreases-loop-view l = length l.rest

abbrev pub invariant-loop-view : goal.invariant-loop-view
invariant-loop-view l =
    l.uses ++ flat_map (part_uses (workbook l.schema l.state) l.variables) l.rest ≡ l.fn.uses ++ flat_map (part_uses (workbook l.schema l.state) l.variables)
    l.views
