use Rattle.std.proofs.Common.{◌≡◌, ◌++◌, length}
use Rattle.std.specs.Prelude.{map}
use Rattle.sheet_meaning.specs.Statements.{workbook}
use Rattle.sheet_columns.specs.declared.view.CoreSlot.{CoreSlot}
use Rattle.sheet_meaning.specs.Page.{slot_run}
use Rattle.plain_meaning.proofs.showing.shows.Given as goal

abbrev pub decreases-loop-slot : goal.decreases-loop-slot
decreases-loop-slot l = length l.rest

abbrev pub invariant-loop-slot : goal.invariant-loop-slot
invariant-loop-slot l =
    l.list ++ map (λ (slot : CoreSlot). (slot_run (workbook l.schema l.state) l.variables slot).outcome) l.rest ≡ map
    (λ (slot : CoreSlot). (slot_run (workbook l.schema l.state) l.variables slot).outcome) l.slots
