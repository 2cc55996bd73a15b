use Rattle.sheet_requests.specs.Bodies.{part_data}
use Rattle.sheet_wire.proofs.Sending.{GoesOn}
use Rattle.sheet_wire.proofs.page.send_parts.Given as goal

abbrev pub invariant-loop-part : goal.invariant-loop-part
invariant-loop-part g l = GoesOn (part_data l.columns) l.parts l.part-index (g.S.Serializer.written l.initial.out) (g.S.Serializer.written l.out)
