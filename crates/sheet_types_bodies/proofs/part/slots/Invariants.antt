use Rattle.std.proofs.Common.{◌≡◌, drop}
use Rattle.sheet_define_data.specs.declared.definition.Show.{Show}
use Rattle.sheet_types_bodies.specs.Calls.{here}
use Rattle.sheet_types_bodies.specs.Parts.{slot, slots}
use Rattle.sheet_types_bodies.proofs.Steps.{rest_in_turn}
use Rattle.sheet_types_bodies.proofs.part.slots.Given as goal

abbrev pub invariant-loop-show : goal.invariant-loop-show
invariant-loop-show l =
    slots l.written (here l.sheet l.variables) l.fn.number ≡ rest_in_turn (λ (s : Show). slot s (here l.sheet l.variables)) (λ s. 1) l.list
    (drop l.show-index l.written) l.next
