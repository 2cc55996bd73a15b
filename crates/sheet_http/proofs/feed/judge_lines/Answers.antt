use Rattle.sheet_http.proofs.FeedLemmas.{open_known, long_step, hopeless_step}
use Rattle.sheet_http.proofs.feed.judge_lines.Goals as goal

pub returns-in-Open-clause-knows : goal.returns-in-Open-clause-knows
returns-in-Open-clause-knows c = let f = c.in-Open.ensures.found in open_known c.args.held.now f.0 f.1 f.2

pub returns-in-TooLong-clause-knows : goal.returns-in-TooLong-clause-knows
returns-in-TooLong-clause-knows c = let f = c.in-TooLong.ensures in long_step c.args.held.now f.found.0 f.found.1 f.found.2

pub returns-in-Hopeless-clause-knows : goal.returns-in-Hopeless-clause-knows
returns-in-Hopeless-clause-knows c = hopeless_step c.args.held.now c.in-Hopeless.count c.in-Hopeless.ensures.found
