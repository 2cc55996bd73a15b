use Rattle.sheet_machine.specs.Held.{holding}
use Rattle.sheet_machine.proofs.Reopening.{told_more, told_no_more, told_end, told_not_read}
use Rattle.sheet_machine.proofs.opening.go_on.Goals as goal

pub returns-in-Ok-clause-file : goal.returns-in-Ok-clause-file
returns-in-Ok-clause-file g c =
    told_more c.args.opened.now c.next_record.new.self _ _ c.in-Ok-Some.field-0 c.in-Ok-Some.further c.take.new.held c.in-Ok-Some.field-0-is c.in-Ok-Some.ensures.file
    c.in-Ok.ensures.goes_on

pub returns-in-Ok-Some-clause-file : goal.returns-in-Ok-Some-clause-file
returns-in-Ok-Some-clause-file g c =
    told_no_more c.args.opened.now c.next_record.new.self _ _ c.texts_stand_for_one_definition.ensures c.in-Ok-Some.field-0 c.in-Ok-Some.further _
    (holding c.take.new.held) c.in-Err-take.refusal c.in-Ok-Some.field-0-is c.in-Ok-Some.ensures.file c.in-Err-take.ensures.goes_on

pub returns-in-Ok-None-clause-file : goal.returns-in-Ok-None-clause-file
returns-in-Ok-None-clause-file g c =
    told_end c.args.opened.now c.next_record.new.self _ _ c.in-Ok-None.field-0 c.in-Ok-None.field-0-is c.in-Ok-None.ensures.journal c.in-Ok-None.ensures.file

pub returns-clause-file : goal.returns-clause-file
returns-clause-file g c =
    told_not_read c.args.opened.now c.next_record.new.self _ _ _ c.in-Err.refusal c.refused.result c.refused.ensures c.in-Err.ensures.journal c.in-Err.ensures.file
