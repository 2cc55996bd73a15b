use Rattle.std.proofs.Common.{◌≡◌, ◌++◌, take}
use Rattle.std.specs.Prelude.{codes}
use Rattle.std.specs.List.{flat_map}
use Rattle.sheet_define_data.specs.Printing.{parameter_text}
use Rattle.sheet_define_print.proofs.head.append_others.Given as goal

abbrev pub invariant-loop-parameter : goal.invariant-loop-parameter
invariant-loop-parameter l = l.out.items ≡ l.fn.out.items ++ flat_map (λ p. codes ", " ++ parameter_text p) (take l.parameter-index l.parameters)
