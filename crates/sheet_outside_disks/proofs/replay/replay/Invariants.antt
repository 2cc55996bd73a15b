use Rattle.std.proofs.Common.{take, map}
use Rattle.sheet_outside_disks.specs.Drive.{call_of}
use Rattle.sheet_outside_disks.proofs.Replaying.{IsReplayed}
use Rattle.sheet_outside_disks.proofs.replay.replay.Given as goal

abbrev pub invariant-loop-event : goal.invariant-loop-event
invariant-loop-event l = IsReplayed l.start (map call_of (take l.event-index l.log)) l.name l.here l.file
