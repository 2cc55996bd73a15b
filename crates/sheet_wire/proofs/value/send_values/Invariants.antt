use Rattle.sheet_requests.specs.Bodies.{value_data}
use Rattle.sheet_wire.proofs.Sending.{GoesOn}
use Rattle.sheet_wire.proofs.value.send_values.Given as goal

abbrev pub invariant-loop-value : goal.invariant-loop-value
invariant-loop-value g l = GoesOn value_data l.values l.value-index (g.S.Serializer.written l.initial.out) (g.S.Serializer.written l.out)
