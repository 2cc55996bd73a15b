use Rattle.std.proofs.Common.{List, map, take, option_map, sym, subst}
use Rattle.sheet_outside_disks.specs.Drive.{Call, State, call_of, state, IsLastOpen}
use Rattle.sheet_outside_disks.proofs.Mapping.{map_all}
use Rattle.sheet_outside_disks.proofs.Replaying.{state_more}
use Rattle.sheet_outside_disks.proofs.image.last_open.Goals as goal

pub loop-event-preserved : goal.loop-event-preserved
loop-event-preserved c start =
    subst (λ (s : State). IsLastOpen s (option_map (λ n. n.now) c.last_after-last.result))
    (sym (state_more start c.args.log.now c.loop-event.event-index c.event-item.result c.loop-event-test.true c.event-item.is))
    (c.last_after-last.ensures (state start (map call_of (take c.loop-event.event-index c.args.log.now))) (c.loop-event.invariant start))

pub returns : goal.returns
returns c start =
    subst (λ (calls : List Call). IsLastOpen (state start calls) (option_map (λ n. n.now) c.loop-event.last))
    (map_all call_of c.args.log.now c.loop-event.event-index c.loop-event-test.false) (c.loop-event.invariant start)
