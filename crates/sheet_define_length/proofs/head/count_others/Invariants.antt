use Rattle.std.proofs.Common.{◌++◌, take}
use Rattle.std.specs.Prelude.{codes}
use Rattle.std.specs.List.{flat_map}
use Rattle.sheet_define_data.specs.Printing.{parameter_text}
use Rattle.sheet_define_length.specs.Counting.{Counts}
use Rattle.sheet_define_length.proofs.head.count_others.Given as goal

abbrev pub invariant-loop-parameter : goal.invariant-loop-parameter
invariant-loop-parameter l = Counts l.total l.sum (flat_map (λ p. codes ", " ++ parameter_text p) (take l.parameter-index l.parameters))
