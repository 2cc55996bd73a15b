use Rattle.std.proofs.Common.{◌≡◌, rules, sym, ◌∙◌, ap, Err}
use Rattle.objsheet.specs.Serving.{stop_of}
use Rattle.objsheet.specs.declared.stop.Stop.TheVariants.{TooLong, Source, NoMemory}
use Rattle.objsheet.proofs.Serving.{same_error}
use Rattle.objsheet.proofs.Outcomes.{tried_done, tried_read, tried_longer, tried_longer_input, tried_stopped, tried_broken, tried_starved}
use Rattle.objsheet.proofs.Outcomes.{open_stopped, open_without_book, source_stop, at_stop, too_long_apart, source_apart, memory_apart}
use Rattle.objsheet.proofs.trying.answer_input.Goals as goal

pub returns-in_err-session-clause-stopped : goal.returns-in_err-session-clause-stopped
returns-in_err-session-clause-stopped g c =
    let e = c.in_err-session.field-0.0 in
    let same : c.from_residual-in_err-session.result ≡ Err (stop_of e) = search rules in
    λ is. let source = ap Err (source_stop _ e (sym same ∙ is)) in
    open_stopped c.in_ok-reader.reader c.start_session.new.reader (g.S.Source.left c.args.input.now) (g.S.Source.left c.start_session.new.input)
    (g.K.Sink.written c.args.output.now) c.in_ok-reader.ensures.0 (c.in_err-session.ensures.dry source) (c.in_err-session.ensures.stopped source)

pub returns-in-Started-clause-longer : goal.returns-in-Started-clause-longer
returns-in-Started-clause-longer g c =
    let told = c.in-Err.ensures in
    λ is. let long = same_error c.in-Err.stop _ is in
    tried_longer c.in_ok-reader.reader c.start_session.new.reader c.answer_lines.new.reader c.in-Started.session (g.S.Source.left c.args.input.now)
    (g.S.Source.left c.start_session.new.input) (g.S.Source.left c.answer_lines.new.input) (g.K.Sink.written c.args.output.now)
    (g.K.Sink.written c.answer_lines.new.output)
    c.in_ok-reader.ensures.0 c.in_ok-reader.ensures.1 told.limit (rw c.in-Started.is at c.in_ok-session.ensures.opened) c.start_session.ensures.counts
    told.counts (at_stop _ c.in-Err.stop TooLong _ long too_long_apart told.stopped) (told.too_long long).0 (told.too_long long).1

pub returns-in-Started-clause-longer_input : goal.returns-in-Started-clause-longer_input
returns-in-Started-clause-longer_input g c =
    let told = c.in-Err.ensures in
    λ is. let long = same_error c.in-Err.stop _ is in
    tried_longer_input c.in_ok-reader.reader c.start_session.new.reader c.answer_lines.new.reader c.in-Started.session (g.S.Source.left c.args.input.now)
    (g.S.Source.left c.start_session.new.input) (g.S.Source.left c.answer_lines.new.input)
    c.in_ok-reader.ensures.0 c.in_ok-reader.ensures.1 told.limit (rw c.in-Started.is at c.in_ok-session.ensures.opened) c.start_session.ensures.counts
    told.counts (told.too_long long).0 (told.too_long long).1

pub returns-in-Started-clause-stopped : goal.returns-in-Started-clause-stopped
returns-in-Started-clause-stopped g c =
    let told = c.in-Err.ensures in
    λ is. let source = same_error c.in-Err.stop _ is in
    tried_stopped c.in_ok-reader.reader c.start_session.new.reader c.answer_lines.new.reader c.in-Started.session (g.S.Source.left c.args.input.now)
    (g.S.Source.left c.start_session.new.input) (g.S.Source.left c.answer_lines.new.input) (g.K.Sink.written c.args.output.now)
    (g.K.Sink.written c.answer_lines.new.output)
    c.in_ok-reader.ensures.0 c.in_ok-reader.ensures.1 told.limit (rw c.in-Started.is at c.in_ok-session.ensures.opened) c.start_session.ensures.counts
    told.counts (at_stop _ c.in-Err.stop Source _ source source_apart told.stopped) (told.dry source)

pub returns-in-Started-clause-sink_broken : goal.returns-in-Started-clause-sink_broken
returns-in-Started-clause-sink_broken g c =
    let told = c.in-Err.ensures in
    λ is. let sink = same_error c.in-Err.stop _ is in
    tried_broken c.in_ok-reader.reader c.start_session.new.reader c.answer_lines.new.reader c.in-Started.session (g.S.Source.left c.args.input.now)
    (g.S.Source.left c.start_session.new.input) (g.S.Source.left c.answer_lines.new.input) (g.K.Sink.written c.args.output.now)
    (g.K.Sink.written c.answer_lines.new.output)
    c.in_ok-reader.ensures.0 c.in_ok-reader.ensures.1 told.limit (rw c.in-Started.is at c.in_ok-session.ensures.opened) c.start_session.ensures.counts
    told.counts (told.broken sink)

pub returns-in-Started-clause-memory_broken : goal.returns-in-Started-clause-memory_broken
returns-in-Started-clause-memory_broken g c =
    let told = c.in-Err.ensures in
    λ is. tried_starved c.in_ok-reader.reader c.start_session.new.reader c.answer_lines.new.reader c.in-Started.session (g.S.Source.left c.args.input.now)
    (g.S.Source.left c.start_session.new.input) (g.S.Source.left c.answer_lines.new.input) (g.K.Sink.written c.args.output.now)
    (g.K.Sink.written c.answer_lines.new.output)
    c.in_ok-reader.ensures.0 c.in_ok-reader.ensures.1 told.limit (rw c.in-Started.is at c.in_ok-session.ensures.opened) c.start_session.ensures.counts
    told.counts (at_stop _ c.in-Err.stop NoMemory _ is memory_apart told.stopped)

pub returns-in-Ok-clause-ended : goal.returns-in-Ok-clause-ended
returns-in-Ok-clause-ended g c =
    let told = c.in-Ok.ensures in
    tried_done c.in_ok-reader.reader c.start_session.new.reader c.answer_lines.new.reader c.in-Started.session c.answer_lines.new.session
    (g.S.Source.left c.args.input.now) (g.S.Source.left c.start_session.new.input) (g.S.Source.left c.answer_lines.new.input)
    (g.K.Sink.written c.args.output.now) (g.K.Sink.written c.answer_lines.new.output)
    c.in_ok-reader.ensures.0 c.in_ok-reader.ensures.1 told.limit (rw c.in-Started.is at c.in_ok-session.ensures.opened) c.start_session.ensures.counts
    told.counts told.done

pub returns-in-Ok-clause-ended_input : goal.returns-in-Ok-clause-ended_input
returns-in-Ok-clause-ended_input g c =
    let told = c.in-Ok.ensures in
    tried_read c.in_ok-reader.reader c.start_session.new.reader c.answer_lines.new.reader c.in-Started.session (g.S.Source.left c.args.input.now)
    (g.S.Source.left c.start_session.new.input) (g.S.Source.left c.answer_lines.new.input)
    c.in_ok-reader.ensures.0 c.in_ok-reader.ensures.1 told.limit (rw c.in-Started.is at c.in_ok-session.ensures.opened) c.start_session.ensures.counts
    told.counts told.end

pub returns-clause-ended_input : goal.returns-clause-ended_input
returns-clause-ended_input g c =
    open_without_book c.texts_stand_for_one_definition.ensures c.in_ok-reader.reader c.start_session.new.reader c.in-Refused.line.items
    (g.S.Source.left c.args.input.now) (g.S.Source.left c.start_session.new.input) c.in_ok-reader.ensures.0
    (rw c.in-Refused.is at c.in_ok-session.ensures.opened)
