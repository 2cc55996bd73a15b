use Rattle.std.proofs.Common.{◌≡◌, ◌∷◌, [], ◌++◌, take}
use Rattle.std.specs.Prelude.{flat_map}
use Rattle.sheet_print.specs.Cells.{escape}
use Rattle.sheet_print.proofs.cells.add_quoted.Given as goal

abbrev pub invariant-loop-byte : goal.invariant-loop-byte
invariant-loop-byte l = l.out.items ≡ l.fn.out.items ++ 34 ∷ [] ++ flat_map escape (take l.byte-index l.text)
