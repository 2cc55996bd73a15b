use Rattle.sheet_machine.specs.Held.{holding}
use Rattle.sheet_machine.proofs.Stepping.{acted, starved, all_taken_in}
use Rattle.sheet_machine.proofs.app.answer_in_memory.Goals as goal

pub returns-in-Ok-clause-step : goal.returns-in-Ok-clause-step
returns-in-Ok-clause-step g c =
    let h = holding c.args.held.now in
    acted h (holding c.take_in.new.self) c.args.request.now c.in-Ok.answered.reply
    (all_taken_in h c.act.new.held c.take_in.new.self c.args.request.now c.in-Ok.answered c.in-Ok.ensures.gives.1 c.take_in.ensures.held)

pub returns-in-Err-clause-step : goal.returns-in-Err-clause-step
returns-in-Err-clause-step g c =
    starved (holding c.args.held.now) (holding c.act.new.held) c.args.request.now c.starved.result.reply c.in-Err.ensures.gives.0 c.starved.ensures.reply
