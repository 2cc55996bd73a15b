use Rattle.std.proofs.Common.{sym, subst, map, take, List}
use Rattle.sheet_outside_disks.specs.Drive.{Call, call_of}
use Rattle.sheet_outside_disks.proofs.Mapping.{map_more}
use Rattle.sheet_outside_disks.proofs.Replaying.{IsReplayed, replayed_more}
use Rattle.sheet_outside_disks.proofs.replay.replay.Goals as goal

pub loop-event-preserved : goal.loop-event-preserved
loop-event-preserved c =
    subst (λ (calls : List Call). IsReplayed c.args.start.now calls c.args.name.now c.in_ok-here.here c.turn.new.file)
    (sym (map_more call_of c.args.log.now c.loop-event.event-index c.event-item.result c.event-item.result c.loop-event-test.true c.event-item.is))
    (replayed_more c.args.start.now (map call_of (take c.loop-event.event-index c.args.log.now)) (call_of c.event-item.result) c.args.name.now c.loop-event.here
    c.in_ok-here.here c.loop-event.file c.turn.new.file c.loop-event.invariant c.in_ok-here.ensures.here c.in_ok-here.ensures.file)
