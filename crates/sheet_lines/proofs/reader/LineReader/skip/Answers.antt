use Rattle.std.proofs.Common.{take}
use Rattle.sheet_lines.proofs.Feeds.{feed_ahead, more_ahead}
use Rattle.sheet_lines.proofs.reader.LineReader.skip.Goals as goal

pub returns-in-Some-clause-part : goal.returns-in-Some-clause-part
returns-in-Some-clause-part c =
    let front = c.window-front.result.now in (
      take c.in-Some.at front,
      feed_ahead c.args.self.now.ahead front c.advance.new.self.ahead _ c.in-Some.at c.window-front.ensures c.in-Some.ensures
          c.advance.ensures.bytes,
    )

pub returns-in-None-clause-part : goal.returns-in-None-clause-part
returns-in-None-clause-part c =
    let front = c.window-front.result.now in
    (front, more_ahead c.args.self.now.ahead front c.advance-in-None.new.self.ahead _ c.window-front.ensures c.in-None.ensures c.advance-in-None.ensures.bytes)
