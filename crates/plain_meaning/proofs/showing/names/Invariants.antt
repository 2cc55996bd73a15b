use Rattle.std.proofs.Common.{◌≡◌, ◌++◌, length}
use Rattle.plain_meaning.specs.Pages.{names_of}
use Rattle.plain_meaning.proofs.showing.names.Given as goal

abbrev pub decreases-loop-slot : goal.decreases-loop-slot
decreases-loop-slot l = length l.rest

abbrev pub invariant-loop-slot : goal.invariant-loop-slot
invariant-loop-slot l = l.list ++ names_of l.rest ≡ names_of l.slots
