use Rattle.sheet_machine.proofs.Answering.{settled_as_in, settled_as_out, settled_not}
use Rattle.sheet_machine.proofs.recording.settle_doubt.Goals as goal

pub returns-in-Ok-In-clause-settles : goal.returns-in-Ok-In-clause-settles
returns-in-Ok-In-clause-settles g c =
    settled_as_in c.args.held.now c.args.journal.now _ _ c.requires.in_doubt _ c.in-Ok-In.field-0 c.take_in.new.self c.settle.new.self c.in-Ok-In.field-0-is
    c.take_in.ensures.held c.take_in.ensures.settled c.take_in.ensures.none c.in-Ok-In.ensures.journal c.in-Ok-In.ensures.file

pub returns-in-Ok-Out-clause-settles : goal.returns-in-Ok-Out-clause-settles
returns-in-Ok-Out-clause-settles g c =
    settled_as_out c.args.held.now c.args.journal.now _ _ c.requires.in_doubt _ c.in-Ok-Out.field-0 c.leave_out.new.self c.settle.new.self c.in-Ok-Out.field-0-is
    c.leave_out.ensures.held c.leave_out.ensures.settled c.leave_out.ensures.none c.in-Ok-Out.ensures.journal c.in-Ok-Out.ensures.file

pub returns-in-Err-clause-settles : goal.returns-in-Err-clause-settles
returns-in-Err-clause-settles g c =
    settled_not c.args.held.now c.args.journal.now _ _ c.requires.in_doubt c.in-Err.failed c.settle.new.self c.in-Err.ensures.journal c.in-Err.ensures.file
