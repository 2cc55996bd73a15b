use Rattle.sheet_machine.proofs.Appended.{all_taken, all_doubted}
use Rattle.sheet_machine.proofs.recording.record.Goals as goal

pub returns-in-Ok-append-clause-becomes : goal.returns-in-Ok-append-clause-becomes
returns-in-Ok-append-clause-becomes g c =
    all_taken c.args.held.now c.args.journal.now c.prepare.new.journal c.append.new.self _ _ c.in-Ok.ensures.place tt c.take_in.new.self c.requires.can
    c.in-Ok.ensures.staged c.in-Ok-append.ensures.journal c.in-Ok-append.ensures.file c.take_in.ensures.held c.take_in.ensures.settled c.take_in.ensures.none

pub returns-in-Err-append-clause-becomes : goal.returns-in-Err-append-clause-becomes
returns-in-Err-append-clause-becomes g c =
    all_doubted c.args.held.now c.args.journal.now c.prepare.new.journal c.append.new.self _ _ c.in-Ok.ensures.place _ c.requires.can
    c.in-Ok.ensures.staged c.in-Err-append.ensures.journal c.in-Err-append.ensures.file
