use Rattle.std.proofs.Common.{◌≡◌, rules, sym, ◌∙◌, Err, arith}
use Rattle.sheet_lines.specs.Unread.{rest}
use Rattle.sheet_lines.specs.Told.{both}
use Rattle.objsheet.proofs.Serving.{lines_then, all_then, stops_then, breaks_then, counts_then, stopped_by, same_error}
use Rattle.objsheet.proofs.trying.answer_lines.Goals as goal

pub returns-in_err-answer_line-clause-stopped : goal.returns-in_err-answer_line-clause-stopped
returns-in_err-answer_line-clause-stopped g c =
    let e0 = both (rest c.args.reader.now (g.S.Source.left c.args.input.now)) (g.K.Sink.written c.args.output.now) in
    let e1 = both (rest c.lines.reader (g.S.Source.left c.lines.input)) (g.K.Sink.written c.lines.output) in
    let e2 = both (rest c.answer_line.new.reader (g.S.Source.left c.answer_line.new.input)) (g.K.Sink.written c.answer_line.new.output) in
    let same : c.from_residual.result ≡ Err c.in_err-answer_line.field-0.0 = search rules in
    stopped_by c.from_residual.result c.in_err-answer_line.field-0.0 _ _ _ same c.in_err-answer_line.ensures.stopped
    (λ stops. stops_then c.args.session.now c.lines.session e0 e1 e2 c.lines.invariant.serves stops)

pub returns-in_err-answer_line-clause-broken : goal.returns-in_err-answer_line-clause-broken
returns-in_err-answer_line-clause-broken g c =
    let e0 = both (rest c.args.reader.now (g.S.Source.left c.args.input.now)) (g.K.Sink.written c.args.output.now) in
    let e1 = both (rest c.lines.reader (g.S.Source.left c.lines.input)) (g.K.Sink.written c.lines.output) in
    let e2 = both (rest c.answer_line.new.reader (g.S.Source.left c.answer_line.new.input)) (g.K.Sink.written c.answer_line.new.output) in
    let same : c.from_residual.result ≡ Err c.in_err-answer_line.field-0.0 = search rules in
    λ sink. breaks_then c.args.session.now c.lines.session e0 e1 e2 c.lines.invariant.serves
    (c.in_err-answer_line.ensures.broken (same_error c.in_err-answer_line.field-0.0 _ (sym same ∙ sink)))

pub lines-preserved : goal.lines-preserved
lines-preserved g c =
    let e0 = both (rest c.args.reader.now (g.S.Source.left c.args.input.now)) (g.K.Sink.written c.args.output.now) in
    let e1 = both (rest c.lines.reader (g.S.Source.left c.lines.input)) (g.K.Sink.written c.lines.output) in
    let e2 = both (rest c.answer_line.new.reader (g.S.Source.left c.answer_line.new.input)) (g.K.Sink.written c.answer_line.new.output) in
    record {
      serves = lines_then c.args.session.now c.lines.session c.answer_line.new.session e0 e1 e2 c.lines.invariant.serves
          (c.in_ok-answer_line.ensures.more c.if-branch.true);
      counts = counts_then c.args.reader.now.used c.lines.reader.used c.answer_line.new.reader.used (rest c.args.reader.now (g.S.Source.left c.args.input.now))
          (rest c.lines.reader (g.S.Source.left c.lines.input)) (rest c.answer_line.new.reader (g.S.Source.left c.answer_line.new.input))
          c.lines.invariant.counts c.answer_line.ensures.counts;
      source = omega (arith, c.lines.invariant.source, c.answer_line.ensures.later_source);
      sink = omega (arith, c.lines.invariant.sink, c.answer_line.ensures.later_sink);
      still = c.answer_line.ensures.still ∙ c.lines.invariant.still;
    }

pub returns-clause-done : goal.returns-clause-done
returns-clause-done g c =
    let e0 = both (rest c.args.reader.now (g.S.Source.left c.args.input.now)) (g.K.Sink.written c.args.output.now) in
    let e1 = both (rest c.lines.reader (g.S.Source.left c.lines.input)) (g.K.Sink.written c.lines.output) in
    let e2 = both (rest c.answer_line.new.reader (g.S.Source.left c.answer_line.new.input)) (g.K.Sink.written c.answer_line.new.output) in
    all_then c.args.session.now c.lines.session c.answer_line.new.session e0 e1 e2 c.lines.invariant.serves (c.in_ok-answer_line.ensures.done c.if-branch.false)
