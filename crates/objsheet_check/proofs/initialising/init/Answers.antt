use Rattle.std.proofs.Common.{refl}
use Rattle.objsheet_check.proofs.Beginnings.{begun, unfit}
use Rattle.objsheet_check.proofs.initialising.init.Goals as goal

pub returns-in-Ok-Definition-clause-inits : goal.returns-in-Ok-Definition-clause-inits
returns-in-Ok-Definition-clause-inits g c =
    begun _ _ c.in-Ok-Definition.text.items c.as_slice.result.now _ _ _ c.as_slice.ensures.value
    (rw c.in-Ok-Definition.field-0-is at c.in-Ok-Definition.ensures.book) (rw c.in-Ok-Definition.field-0-is at c.in-Ok-Definition.ensures.found)
    c.begin_journal.ensures.begun

pub returns-in-Ok-Refused-clause-inits : goal.returns-in-Ok-Refused-clause-inits
returns-in-Ok-Refused-clause-inits g c =
    unfit _ _ c.in-Ok-Refused.line.items c.as_slice-in-Ok-Refused.result.now _ _ _ c.as_slice-in-Ok-Refused.ensures.value
    (rw c.in-Ok-Refused.field-0-is at c.in-Ok-Refused.ensures.found) c.write_last_line.ensures.says refl
