use Rattle.std.proofs.Common.{◌≡◌, length}
use Rattle.sheet_define_reading.specs.Reading.{with_front, more_names}
use Rattle.sheet_define.proofs.types.more_names.Given as goal

abbrev pub decreases-loop-behind : goal.decreases-loop-behind
decreases-loop-behind l = length l.remaining

abbrev pub invariant-loop-behind : goal.invariant-loop-behind
invariant-loop-behind l = with_front l.names (more_names l.end l.remaining) ≡ with_front l.fn.names (more_names l.end l.rest)
