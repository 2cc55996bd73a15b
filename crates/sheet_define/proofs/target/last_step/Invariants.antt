use Rattle.std.proofs.Common.{◌≡◌, ◌-◌, length}
use Rattle.sheet_define_reading.specs.Reading.{usual, last_step}
use Rattle.sheet_define.proofs.target.last_step.Given as goal

abbrev pub invariant-loop : goal.invariant-loop
invariant-loop l =
    last_step (usual l.text_length) (l.end - l.counter) l.at l.line l.formed l.remaining ≡ last_step (usual l.text_length) (length l.rest) l.at l.line
    l.fn.first l.rest
