use Rattle.sheet_lines.specs.Unread.{rest}
use Rattle.objsheet.proofs.Outcomes.{opened, too_long_opened}
use Rattle.objsheet.proofs.trying.start_session.Goals as goal

pub returns-in_ok-open_session-in-Some-clause-opened : goal.returns-in_ok-open_session-in-Some-clause-opened
returns-in_ok-open_session-in-Some-clause-opened g c =
    opened c.in-Some.text.items c.as_slice.result.now c.in_ok-open_session-in-Some.field-0 (rest c.args.reader.now (g.S.Source.left c.args.input.now))
    (rest c.read_to_divider.new.reader (g.S.Source.left c.read_to_divider.new.input)) c.as_slice.ensures.value (rw c.in-Some.is at c.in_ok-text.ensures.text)
    c.in_ok-open_session-in-Some.ensures

pub returns-in_ok-refuse_length-in-None-clause-opened : goal.returns-in_ok-refuse_length-in-None-clause-opened
returns-in_ok-refuse_length-in-None-clause-opened g c =
    too_long_opened c.in_ok-refuse_length-in-None.field-0 (rest c.args.reader.now (g.S.Source.left c.args.input.now))
    (rest c.read_to_divider.new.reader (g.S.Source.left c.read_to_divider.new.input)) (rw c.in-None.is at c.in_ok-text.ensures.longer)
    c.in_ok-refuse_length-in-None.ensures
