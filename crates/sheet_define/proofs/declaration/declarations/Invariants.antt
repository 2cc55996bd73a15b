use Rattle.std.proofs.Common.{◌≡◌, ◌-◌}
use Rattle.sheet_define_reading.specs.Reading.{usual, all_before, declarations, whole_definition}
use Rattle.sheet_define.proofs.declaration.declarations.Given as goal

abbrev pub invariant-loop : goal.invariant-loop
invariant-loop l = all_before l.list (declarations (usual l.text_length) 16 (l.end - l.counter) l.«open» l.remaining) ≡ whole_definition l.text_length l.tokens
