use Rattle.std.proofs.Common.{ap, ◌∙◌, subst, List, ℕ}
use Rattle.std.specs.Str.Lines.{strip_carriage_return}
use Rattle.sheet_outside.specs.Told.{WhereTold}
use Rattle.sheet_lines.specs.Unread.{rest}
use Rattle.sheet_lines.specs.declared.stop.ReadStop.{ReadStop}
use Rattle.objsheet.specs.Serving.{Replies, RepliesInPart}
use Rattle.objsheet.proofs.Serving.{feed_served, last_served, stopped_in_line, feed_breaks, last_breaks, if_err}
use Rattle.objsheet.proofs.trying.answer_line.Goals as goal

pub returns-in_err-next_line-clause-stopped : goal.returns-in_err-next_line-clause-stopped
returns-in_err-next_line-clause-stopped g c =
    if_err c.from_residual.result _ _
    (stopped_in_line ReadStop c.args.session.now c.in_err-next_line.field-0.0 c.next_line.new.line.items
    (rest c.args.reader.now (g.S.Source.left c.args.input.now)) (rest c.next_line.new.self (g.S.Source.left c.next_line.new.input))
    (g.K.Sink.written c.args.output.now) c.in_err-next_line.ensures.line)

pub returns-in_err-write_reply-in-Input-clause-broken : goal.returns-in_err-write_reply-in-Input-clause-broken
returns-in_err-write_reply-in-Input-clause-broken g c =
    let w0 = g.K.Sink.written c.args.output.now in
    let w1 = g.K.Sink.written c.write_reply.new.output in
    let P : List ℕ → Type 0 = λ l. WhereTold (RepliesInPart c.args.session.now l) w0 w1 in
    λ _. last_breaks ReadStop c.args.session.now c.next_line.new.line.items (rest c.args.reader.now (g.S.Source.left c.args.input.now))
    (rest c.next_line.new.self (g.S.Source.left c.next_line.new.input)) w0 w1
    (rw c.in-Input.is at c.in_ok-next_line.ensures.line) (subst P c.as_slice.ensures.value c.in_err-write_reply-in-Input.ensures.broken)

pub returns-in_err-write_reply-in-Feed-clause-broken : goal.returns-in_err-write_reply-in-Feed-clause-broken
returns-in_err-write_reply-in-Feed-clause-broken g c =
    λ _. feed_breaks ReadStop c.args.session.now c.next_line.new.line.items c.without_return.result.now
    (rest c.args.reader.now (g.S.Source.left c.args.input.now)) (rest c.next_line.new.self (g.S.Source.left c.next_line.new.input))
    (g.K.Sink.written c.args.output.now) (g.K.Sink.written c.write_reply-in-Feed.new.output)
    (c.without_return.ensures ∙ ap strip_carriage_return c.as_slice-in-Feed.ensures.value) (rw c.in-Feed.is at c.in_ok-next_line.ensures.line)
    c.in_err-write_reply-in-Feed.ensures.broken

pub returns-in_ok-write_reply-in-Input-clause-done : goal.returns-in_ok-write_reply-in-Input-clause-done
returns-in_ok-write_reply-in-Input-clause-done g c =
    let w0 = g.K.Sink.written c.args.output.now in
    let w1 = g.K.Sink.written c.write_reply.new.output in
    let P : List ℕ → Type 0 = λ l. WhereTold (Replies c.args.session.now c.write_reply.new.session l) w0 w1 in
    λ _. last_served ReadStop c.args.session.now c.write_reply.new.session c.next_line.new.line.items
    (rest c.args.reader.now (g.S.Source.left c.args.input.now)) (rest c.next_line.new.self (g.S.Source.left c.next_line.new.input)) w0 w1
    (rw c.in-Input.is at c.in_ok-next_line.ensures.line) (subst P c.as_slice.ensures.value c.in_ok-write_reply-in-Input.ensures.replied)

pub returns-in_ok-write_reply-in-Feed-clause-more : goal.returns-in_ok-write_reply-in-Feed-clause-more
returns-in_ok-write_reply-in-Feed-clause-more g c =
    λ _. feed_served ReadStop c.args.session.now c.write_reply-in-Feed.new.session c.next_line.new.line.items c.without_return.result.now
    (rest c.args.reader.now (g.S.Source.left c.args.input.now)) (rest c.next_line.new.self (g.S.Source.left c.next_line.new.input))
    (g.K.Sink.written c.args.output.now) (g.K.Sink.written c.write_reply-in-Feed.new.output)
    (c.without_return.ensures ∙ ap strip_carriage_return c.as_slice-in-Feed.ensures.value) (rw c.in-Feed.is at c.in_ok-next_line.ensures.line)
    c.in_ok-write_reply-in-Feed.ensures.replied
