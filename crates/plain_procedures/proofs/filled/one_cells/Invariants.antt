use Rattle.std.proofs.Common.{◌≡◌, ◌++◌, length}
use Rattle.std.specs.List.{flat_map}
use Rattle.plain_procedures.specs.Counts.{one_pairs}
use Rattle.plain_procedures.proofs.filled.one_cells.Given as goal

abbrev pub decreases-loop-object : goal.decreases-loop-object
decreases-loop-object l = length l.rest

abbrev pub invariant-loop-object : goal.invariant-loop-object
invariant-loop-object l = l.list.items ++ flat_map (one_pairs l.schema) l.rest ≡ flat_map (one_pairs l.schema) l.objects
