use Rattle.objsheet_check.proofs.Texts.{unfit, cut_off, has_no_book}
use Rattle.objsheet_check.proofs.checking.check.Goals as goal

pub returns-in-Ok-Refused-clause-refused : goal.returns-in-Ok-Refused-clause-refused
returns-in-Ok-Refused-clause-refused g c = λ one.
    unfit c.in-Ok-Refused.line.items c.as_slice-in-Ok-Refused.result.now _ _ _ _ c.as_slice-in-Ok-Refused.ensures.value
    (rw c.in-Ok-Refused.field-0-is at c.in-Ok-Refused.ensures.found) (c.write_last_line-in-Ok-Refused.ensures.said one)

pub returns-in-Ok-Refused-clause-refused_input : goal.returns-in-Ok-Refused-clause-refused_input
returns-in-Ok-Refused-clause-refused_input g c =
    λ one. has_no_book c.in-Ok-Refused.line.items _ _ (rw c.in-Ok-Refused.field-0-is at c.in-Ok-Refused.ensures.found)

pub returns-in-Ok-Refused-clause-sink_broken : goal.returns-in-Ok-Refused-clause-sink_broken
returns-in-Ok-Refused-clause-sink_broken g c = λ failed.
    cut_off c.in-Ok-Refused.line.items c.as_slice-in-Ok-Refused.result.now _ _ _ _ c.as_slice-in-Ok-Refused.ensures.value
    (rw c.in-Ok-Refused.field-0-is at c.in-Ok-Refused.ensures.found) (c.write_last_line-in-Ok-Refused.ensures.broken failed)
