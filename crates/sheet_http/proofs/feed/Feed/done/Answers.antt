use Rattle.sheet_http.proofs.FeedLemmas.{open_start}
use Rattle.sheet_http.proofs.feed.Feed.done.Goals as goal

pub look-self-inside-requires-clause-knows : goal.look-self-inside-requires-clause-knows
look-self-inside-requires-clause-knows c = open_start c.bytes.result.now
