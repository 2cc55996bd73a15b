use Rattle.sheet_machine.proofs.Reopening.{told_none, told_unread, told_begun, told_refused, none_of_memory}
use Rattle.sheet_machine.proofs.opening.begin.Goals as goal

pub returns-in-Err-clause-refusal : goal.returns-in-Err-clause-refusal
returns-in-Err-clause-refusal g c = none_of_memory c.in-Err.refusal c.refused.result c.refused.ensures

pub returns-in-Ok-None-clause-file : goal.returns-in-Ok-None-clause-file
returns-in-Ok-None-clause-file g c =
    told_none c.args.name.now c.in-Ok.journal c.next_record.new.self c.in-Ok.ensures.journal _ _ _ c.in-Ok.ensures.file c.in-Ok-None.field-0 c.in-Ok-None.field-0-is
    c.in-Ok-None.ensures.file

pub returns-in-Err-next_record-clause-file : goal.returns-in-Err-next_record-clause-file
returns-in-Err-next_record-clause-file g c =
    told_unread c.args.name.now c.in-Ok.journal c.next_record.new.self c.in-Ok.ensures.journal _ _ _ c.in-Ok.ensures.file c.in-Err-next_record.refusal
    c.refused-in-Err-next_record.result c.refused-in-Err-next_record.ensures c.in-Err-next_record.ensures.journal c.in-Err-next_record.ensures.file

pub returns-in-Ok-begun-clause-file : goal.returns-in-Ok-begun-clause-file
returns-in-Ok-begun-clause-file g c =
    told_begun c.args.name.now c.in-Ok.journal c.next_record.new.self c.in-Ok.ensures.journal _ _ _ c.in-Ok.ensures.file c.in-Ok-Some.field-0 c.in-Ok-Some.first
    c.in-Ok-begun.held c.in-Ok-Some.field-0-is c.in-Ok-Some.ensures.file c.in-Ok-begun.ensures.0

pub returns-in-Err-begun-clause-file : goal.returns-in-Err-begun-clause-file
returns-in-Err-begun-clause-file g c =
    told_refused c.args.name.now c.in-Ok.journal c.next_record.new.self c.in-Ok.ensures.journal _ _ _ c.in-Ok.ensures.file c.in-Ok-Some.field-0 c.in-Ok-Some.first
    c.in-Err-begun.refusal c.in-Ok-Some.field-0-is c.in-Ok-Some.ensures.file c.in-Err-begun.ensures
