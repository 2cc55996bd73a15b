use Rattle.std.proofs.Common.{subst}
use Rattle.sheet_http.specs.Knowing.{Knows}
use Rattle.sheet_http.proofs.FeedLemmas.{open_none}
use Rattle.sheet_http.proofs.feed.step_of.Goals as goal

pub returns-in-Open : goal.returns-in-Open
returns-in-Open c = open_none c.args.held.now (subst (Knows c.args.held.now) c.in-Open.is c.requires)
