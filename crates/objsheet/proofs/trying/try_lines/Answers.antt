use Rattle.std.proofs.Common.{ap, Err}
use Rattle.objsheet.proofs.Outcomes.{unfit_broken, longer_broken}
use Rattle.objsheet.proofs.trying.try_lines.Goals as goal

pub returns-in-Ok-Refused-clause-sink_broken : goal.returns-in-Ok-Refused-clause-sink_broken
returns-in-Ok-Refused-clause-sink_broken g c = λ failed.
    unfit_broken c.in-Ok-Refused.line.items c.as_slice.result.now (g.S.Source.left c.args.input.now) (g.S.Source.left c.answer_input.new.input)
    (g.K.Sink.written c.args.output.now) (g.K.Sink.written c.answer_input.new.output) (g.K.Sink.written c.write_last_line.new.output) c.as_slice.ensures.value
    (rw c.in-Ok-Refused.field-0-is at c.in-Ok-Refused.ensures.ended) (c.write_last_line.ensures.broken failed)

pub returns-in-Err-TooLong-clause-sink_broken : goal.returns-in-Err-TooLong-clause-sink_broken
returns-in-Err-TooLong-clause-sink_broken g c = λ failed.
    let is = ap Err c.in-Err-TooLong.field-0-is in
    longer_broken (g.S.Source.left c.args.input.now) (g.S.Source.left c.answer_input.new.input) (g.K.Sink.written c.args.output.now)
    (g.K.Sink.written c.answer_input.new.output) (g.K.Sink.written c.write_last_line-in-Err-TooLong.new.output)
    (c.in-Err-TooLong.ensures.longer is) (c.write_last_line-in-Err-TooLong.ensures.broken failed)
