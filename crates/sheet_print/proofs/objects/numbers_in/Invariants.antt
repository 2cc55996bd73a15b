use Rattle.std.proofs.Common.{◌≡◌, take}
use Rattle.std.specs.Prelude.{filter_map}
use Rattle.sheet_meaning.specs.Formula.{object_in}
use Rattle.sheet_print.proofs.objects.numbers_in.Given as goal

abbrev pub invariant-loop-value : goal.invariant-loop-value
invariant-loop-value l = l.numbers.items ≡ filter_map object_in (take l.value-index l.values)
