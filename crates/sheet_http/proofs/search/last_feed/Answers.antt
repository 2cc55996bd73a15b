use Rattle.std.proofs.Common.{Some, None}
use Rattle.sheet_http.proofs.SearchLemmas.{last_is}
use Rattle.sheet_http.proofs.search.last_feed.Goals as goal

pub returns-in-Some : goal.returns-in-Some
returns-in-Some c = last_is c.args.held.now c.args.start c.args.end (Some c.in-Some.last) c.requires.0 c.requires.1 c.in-Some.ensures

pub returns-in-None : goal.returns-in-None
returns-in-None c = last_is c.args.held.now c.args.start c.args.end None c.requires.0 c.requires.1 c.in-None.ensures
