use Rattle.std.proofs.Common.{List, take, map, option_map}
use Rattle.sheet_outside_disks.specs.Drive.{Named, call_of, state, IsLastOpen}
use Rattle.sheet_outside_disks.proofs.image.last_open.Given as goal

abbrev pub invariant-loop-event : goal.invariant-loop-event
invariant-loop-event l = (start : List Named) → IsLastOpen (state start (map call_of (take l.event-index l.log))) (option_map (λ n. n.now) l.last)
