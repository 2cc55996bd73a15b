use Rattle.sheet_requests.specs.Bodies.{shown_data}
use Rattle.sheet_wire.proofs.Sending.{GoesOn}
use Rattle.sheet_wire.proofs.page.send_shows.Given as goal

abbrev pub invariant-loop-shown : goal.invariant-loop-shown
invariant-loop-shown g l = GoesOn (shown_data l.columns) l.shows l.shown-index (g.S.Serializer.written l.initial.out) (g.S.Serializer.written l.out)
