use Rattle.std.proofs.Common.{◌≡◌, ◌++◌, length}
use Rattle.sheet_views.specs.Pages.{names_of}
use Rattle.sheet_views.proofs.parts.names.Given as goal

abbrev pub decreases-loop-slot : goal.decreases-loop-slot
decreases-loop-slot l = length l.rest

abbrev pub invariant-loop-slot : goal.invariant-loop-slot
invariant-loop-slot l = l.names ++ names_of l.rest ≡ names_of l.slots
