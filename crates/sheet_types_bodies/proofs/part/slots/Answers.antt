use Rattle.std.proofs.Common.{rules}
use Rattle.sheet_define_data.specs.declared.definition.Show.{Show}
use Rattle.sheet_types_bodies.specs.Calls.{here}
use Rattle.sheet_types_bodies.specs.Parts.{slot, slots}
use Rattle.sheet_types_bodies.proofs.Steps.{turn_goes_on, turn_stops, turns_end}
use Rattle.sheet_types_bodies.proofs.part.slots.Goals as goal

pub loop-show-preserved : goal.loop-show-preserved
loop-show-preserved c =
    let r = here c.args.sheet.now c.args.variables.now in
    turn_goes_on (λ (s : Show). slot s r) (λ s. 1) c.args.written.now c.loop-show.show-index c.loop-show.next c.loop-show.list
    (slots c.args.written.now r c.args.number) c.loop-show.invariant
    c.show-item.result c.in-Ok.slot _ _ c.loop-show-test.true c.show-item.is c.in-Ok.ensures (search rules) (search rules)

pub returns-in-Err : goal.returns-in-Err
returns-in-Err c =
    let r = here c.args.sheet.now c.args.variables.now in
    turn_stops (λ (s : Show). slot s r) (λ s. 1) c.args.written.now c.loop-show.show-index c.loop-show.next c.loop-show.list
    (slots c.args.written.now r c.args.number) c.loop-show.invariant
    c.show-item.result c.in-Err.refusal c.loop-show-test.true c.show-item.is c.in-Err.ensures

pub returns : goal.returns
returns c =
    let r = here c.args.sheet.now c.args.variables.now in
    turns_end (λ (s : Show). slot s r) (λ s. 1) c.args.written.now c.loop-show.show-index c.loop-show.next c.loop-show.list
    (slots c.args.written.now r c.args.number) c.loop-show.invariant
    c.loop-show-test.false
