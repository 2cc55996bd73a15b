use Rattle.serde_json.specs.Data.{string}
use Rattle.sheet_wire.proofs.Sending.{GoesOn}
use Rattle.sheet_wire.proofs.page.send_names.Given as goal

abbrev pub invariant-loop-name : goal.invariant-loop-name
invariant-loop-name g l = GoesOn string l.names l.name-index (g.S.Serializer.written l.initial.out) (g.S.Serializer.written l.out)
