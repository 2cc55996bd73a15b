use Rattle.std.proofs.Common.{◌≡◌, map, take}
use Rattle.sheet_csv.specs.Rows.{slot_of}
use Rattle.sheet_csv.proofs.header.slots_of.Given as goal

abbrev pub invariant-loop-parameter : goal.invariant-loop-parameter
invariant-loop-parameter l = l.slots.items ≡ map (slot_of (map (λ t. t.now) l.header)) (take l.parameter-index l.parameters)
