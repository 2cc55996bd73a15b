use Rattle.sheet_requests.specs.Bodies.{row_data}
use Rattle.sheet_wire.proofs.Sending.{GoesOn}
use Rattle.sheet_wire.proofs.page.send_rows.Given as goal

abbrev pub invariant-loop-row : goal.invariant-loop-row
invariant-loop-row g l = GoesOn (row_data l.columns) l.rows l.row-index (g.S.Serializer.written l.initial.out) (g.S.Serializer.written l.out)
