use Rattle.std.proofs.Common.{◌∙◌, ◌++◌, take, ap}
use Rattle.sheet_lines.proofs.Feeds.{feed_ahead, more_ahead}
use Rattle.sheet_lines.proofs.reader.LineReader.keep.Goals as goal

pub returns-in_ok-extend_from_slice-in-Some-clause-part : goal.returns-in_ok-extend_from_slice-in-Some-clause-part
returns-in_ok-extend_from_slice-in-Some-clause-part c =
    let front = c.window-front.result.now in
    let feed = feed_ahead c.args.self.now.ahead front c.advance.new.self.ahead _ c.in-Some.at c.window-front.ensures c.in-Some.ensures
    c.advance.ensures.bytes in
    (take c.in-Some.at front, c.in_ok-extend_from_slice-in-Some.ensures.items ∙ ap (λ l. c.args.line.now.items ++ l) c.split_at.ensures.front, feed)

pub returns-in_ok-extend_from_slice-in-None-clause-part : goal.returns-in_ok-extend_from_slice-in-None-clause-part
returns-in_ok-extend_from_slice-in-None-clause-part c =
    let front = c.window-front.result.now in
    let more = more_ahead c.args.self.now.ahead front c.advance-in-None.new.self.ahead _ c.window-front.ensures c.in-None.ensures
    c.advance-in-None.ensures.bytes in
    (front, c.in_ok-extend_from_slice-in-None.ensures.items, more)
