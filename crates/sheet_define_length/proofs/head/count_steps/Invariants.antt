use Rattle.std.proofs.Common.{◌++◌, take}
use Rattle.std.specs.Prelude.{codes}
use Rattle.std.specs.List.{flat_map}
use Rattle.sheet_define_length.specs.Counting.{Counts}
use Rattle.sheet_define_length.proofs.head.count_steps.Given as goal

abbrev pub invariant-loop-name : goal.invariant-loop-name
invariant-loop-name l = Counts l.total l.sum (flat_map (λ name. codes "." ++ name) (take l.name-index l.names))
