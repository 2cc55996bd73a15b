use Rattle.std.proofs.Common.{◌≡◌, ◌-◌, length}
use Rattle.sheet_define_reading.specs.Reading.{usual, with_front, many, show_by}
use Rattle.sheet_define.proofs.view.shows.Given as goal

abbrev pub invariant-loop : goal.invariant-loop
invariant-loop l =
    with_front l.list (many l.text_length (show_by (usual l.text_length)) (l.end - l.counter) l.remaining) ≡ many l.text_length (show_by (usual l.text_length))
    (length l.rest) l.rest
