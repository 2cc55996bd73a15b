use Rattle.std.proofs.Common.{◌≡◌, ◌++◌, length}
use Rattle.std.specs.Prelude.{map}
use Rattle.std.specs.List.{flat_map}
use Rattle.plain_lists.specs.Told.{scene}
use Rattle.plain_meaning.specs.Tables.{cells_under, cell_run}
use Rattle.plain_meaning.proofs.rounds.runs_of.Given as goal

abbrev pub decreases-loop-object : goal.decreases-loop-object
decreases-loop-object l = length l.rest

abbrev pub invariant-loop-object : goal.invariant-loop-object
invariant-loop-object l =
    l.list.items ++ map (cell_run (scene l.state l.cells)) (flat_map (cells_under l.schema) l.rest)
    ≡ map (cell_run (scene l.state l.cells)) (flat_map (cells_under l.schema) l.objects)
