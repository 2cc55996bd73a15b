use Rattle.objsheet.proofs.Serving.{on_ok, on_err, any_err, line_front, line_whole, line_end}
use Rattle.objsheet.proofs.trying.write_line.Goals as goal

pub returns-in_err-write_all-clause-err : goal.returns-in_err-write_all-clause-err
returns-in_err-write_all-clause-err g c =
    any_err c.from_residual.result _
    (line_front c.args.text.now (g.K.Sink.written c.args.output.now) (g.K.Sink.written c.write_all.new.output) c.in_err-write_all.ensures.err)

pub returns-clause-ok : goal.returns-clause-ok
returns-clause-ok g c =
    on_ok c.write_all-2.result _ _ c.write_all-2.ensures.ok
    (λ gains. line_whole c.args.text.now (g.K.Sink.written c.args.output.now) (g.K.Sink.written c.write_all.new.output)
    (g.K.Sink.written c.write_all-2.new.output) c.in_ok-write_all.ensures.ok gains)

pub returns-clause-err : goal.returns-clause-err
returns-clause-err g c =
    on_err c.write_all-2.result _ _ c.write_all-2.ensures.err
    (λ gains. line_end c.args.text.now (g.K.Sink.written c.args.output.now) (g.K.Sink.written c.write_all.new.output)
    (g.K.Sink.written c.write_all-2.new.output) c.in_ok-write_all.ensures.ok gains)
