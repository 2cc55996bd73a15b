use Rattle.std.proofs.Common.{sym, subst}
use Rattle.sheet_machine.specs.Held.{machine_of}
use Rattle.sheet_machine.specs.Recording.{IsAnswered}
use Rattle.sheet_machine.proofs.Answering.{is_answered, is_unsettled, is_starved_at_once}
use Rattle.sheet_machine.proofs.recording.answer_recorded.Goals as goal

pub returns-in-Err-clause-answered : goal.returns-in-Err-clause-answered
returns-in-Err-clause-answered g c =
    let a = c.args.held.now in
    let j = c.args.journal.now in
    subst
    (λ r. IsAnswered (machine_of a) j c.args.request.now r (machine_of a) j (g.D.Disk.told c.args.disk.now) (g.D.Disk.told c.args.disk.now)) (sym c.starved.ensures.reply)
    (is_starved_at_once a j c.args.request.now (g.D.Disk.told c.args.disk.now) c.requires.between)

pub returns-in-Ok-settle-clause-answered : goal.returns-in-Ok-settle-clause-answered
returns-in-Ok-settle-clause-answered g c =
    is_answered c.args.held.now c.args.journal.now c.settle.new.held c.settle.new.journal c.answer_sure.new.held c.answer_sure.new.journal c.args.request.now
    c.answer_sure.result.reply _ _ _ c.in-Ok-settle.ensures.settles c.answer_sure.ensures.acted

pub returns-in-Err-settle-clause-answered : goal.returns-in-Err-settle-clause-answered
returns-in-Err-settle-clause-answered g c =
    let a = c.args.held.now in
    let j = c.args.journal.now in
    subst
    (λ r. IsAnswered (machine_of a) j c.args.request.now r (machine_of c.settle.new.held) c.settle.new.journal (g.D.Disk.told c.args.disk.now)
    (g.D.Disk.told c.settle.new.disk)) (sym c.in-Ok.ensures.reply)
    (is_unsettled a j c.settle.new.held c.settle.new.journal c.args.request.now _ _ c.in-Err-settle.ensures.settles)
