use Rattle.std.proofs.Common.{◌≡◌, ◌++◌, take}
use Rattle.std.specs.Prelude.{flat_map}
use Rattle.sheet_csv.specs.Pages.{value_line}
use Rattle.sheet_csv.proofs.export.add_values.Given as goal

abbrev pub invariant-loop-value : goal.invariant-loop-value
invariant-loop-value l = l.out.items ≡ l.fn.out.items ++ flat_map (value_line l.part l.row l.name) (take l.value-index l.values)
