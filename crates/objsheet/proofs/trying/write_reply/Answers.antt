use Rattle.std.proofs.Common.{◌<◌, rules, refl, sym, ◌∙◌}
use Rattle.sheet_requests.specs.Bodies.{body}
use Rattle.std.specs.Prelude.{length}
use Rattle.objsheet.specs.Sessions.{too_long_line}
use Rattle.objsheet.specs.Sessions.IsAnswer.{is_too_long}
use Rattle.objsheet.proofs.Serving.{some_bytes, replied, replied_in_part, on_ok, on_err}
use Rattle.objsheet.proofs.trying.write_reply.Goals as goal

pub returns-then-request-gt-LONGEST_REQUEST-clause-replied : goal.returns-then-request-gt-LONGEST_REQUEST-clause-replied
returns-then-request-gt-LONGEST_REQUEST-clause-replied g c =
    let long : 65536 < length c.args.request.now = search rules in
    on_ok c.write_line.result _ _ c.write_line.ensures.ok
    (λ gains. replied c.args.session.now c.args.session.now c.args.request.now too_long_line too_long_line (g.K.Sink.written c.args.output.now)
    (g.K.Sink.written c.write_line.new.output) (some_bytes c.args.request.now (sym c.is_empty.ensures ∙ c.if-is_empty.false)) (is_too_long long) refl gains)

pub returns-then-request-gt-LONGEST_REQUEST-clause-broken : goal.returns-then-request-gt-LONGEST_REQUEST-clause-broken
returns-then-request-gt-LONGEST_REQUEST-clause-broken g c =
    let long : 65536 < length c.args.request.now = search rules in
    on_err c.write_line.result _ _ c.write_line.ensures.err
    (λ gains. replied_in_part c.args.session.now c.args.session.now c.args.request.now too_long_line too_long_line (g.K.Sink.written c.args.output.now)
    (g.K.Sink.written c.write_line.new.output) (some_bytes c.args.request.now (sym c.is_empty.ensures ∙ c.if-is_empty.false)) (is_too_long long) refl gains)

pub returns-clause-replied : goal.returns-clause-replied
returns-clause-replied g c =
    let answered = c.answer-answered in
    on_ok c.write_line-2.result _ _ c.write_line-2.ensures.ok
    (λ gains. replied c.args.session.now answered.new.self c.args.request.now (body c.args.session.now.book.columns answered.result.reply) c.body_of.result.now
    (g.K.Sink.written c.args.output.now) (g.K.Sink.written c.write_line-2.new.output)
    (some_bytes c.args.request.now (sym c.is_empty.ensures ∙ c.if-is_empty.false)) answered.ensures.answered.0
    (c.body_of.ensures c.args.session.now answered.ensures.answered.1) gains)

pub returns-clause-broken : goal.returns-clause-broken
returns-clause-broken g c =
    let answered = c.answer-answered in
    on_err c.write_line-2.result _ _ c.write_line-2.ensures.err
    (λ gains. replied_in_part c.args.session.now answered.new.self c.args.request.now (body c.args.session.now.book.columns answered.result.reply)
    c.body_of.result.now (g.K.Sink.written c.args.output.now) (g.K.Sink.written c.write_line-2.new.output)
    (some_bytes c.args.request.now (sym c.is_empty.ensures ∙ c.if-is_empty.false)) answered.ensures.answered.0
    (c.body_of.ensures c.args.session.now answered.ensures.answered.1) gains)
