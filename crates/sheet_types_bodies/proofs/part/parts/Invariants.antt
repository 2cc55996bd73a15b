use Rattle.std.proofs.Common.{◌≡◌, drop}
use Rattle.sheet_define_data.specs.declared.definition.Part.{Part}
use Rattle.sheet_types_bodies.specs.Calls.{here}
use Rattle.sheet_types_bodies.specs.Parts.{part_of, parts, numbers_of}
use Rattle.sheet_types_bodies.proofs.Steps.{rest_in_turn}
use Rattle.sheet_types_bodies.proofs.part.parts.Given as goal

abbrev pub invariant-loop-one : goal.invariant-loop-one
invariant-loop-one l =
    (parts l.written (here l.sheet l.fn.variables.items) 1 ≡ rest_in_turn (λ (p : Part). part_of p (here l.sheet l.fn.variables.items)) numbers_of l.list
    (drop l.one-index l.written) l.next)
    × (l.variables.items ≡ l.fn.variables.items)
