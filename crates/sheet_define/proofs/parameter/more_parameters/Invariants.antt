use Rattle.std.proofs.Common.{◌≡◌, ◌-◌, ◌∷◌, []}
use Rattle.sheet_define_reading.specs.Reading.{usual, with_front, more_parameters}
use Rattle.sheet_define.proofs.parameter.more_parameters.Given as goal

abbrev pub invariant-loop : goal.invariant-loop
invariant-loop l =
    with_front l.list (more_parameters (usual l.text_length) (15 - l.counter) l.remaining) ≡ with_front (l.fn.first ∷ [])
    (more_parameters (usual l.text_length) 15 l.rest)
