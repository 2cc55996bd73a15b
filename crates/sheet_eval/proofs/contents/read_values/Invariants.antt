use Rattle.std.proofs.Common.{◌≡◌, ◌++◌, length}
use Rattle.std.specs.Prelude.{filter}
use Rattle.sheet_meaning.specs.Formula.{is_read}
use Rattle.sheet_eval.specs.Told.{world_told}
use Rattle.sheet_eval.proofs.contents.read_values.Given as goal

abbrev pub decreases-loop-value : goal.decreases-loop-value
decreases-loop-value g l = length l.rest

abbrev pub invariant-loop-value : goal.invariant-loop-value
invariant-loop-value g l =
    l.read ++ filter (is_read (world_told (g.L.Lookup.told l.lookup))) l.rest ≡ filter (is_read (world_told (g.L.Lookup.told l.lookup))) l.set
