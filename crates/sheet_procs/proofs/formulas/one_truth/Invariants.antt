use Rattle.std.proofs.Common.{◌≡◌, ◌++◌, drop}
use Rattle.std.specs.List.{filter_map}
use Rattle.std.specs.Option.{option_to_list}
use Rattle.sheet_meaning.specs.Formula.{truth_in}
use Rattle.sheet_procs.proofs.formulas.one_truth.Given as goal

abbrev pub invariant-loop-k : goal.invariant-loop-k
invariant-loop-k l = filter_map truth_in l.set ≡ option_to_list l.found ++ filter_map truth_in (drop l.k l.set)
