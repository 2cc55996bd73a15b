use Rattle.sheet_http.proofs.FeedLemmas.{name_text}
use Rattle.sheet_http.proofs.feed.name_of.Goals as goal

pub unreachable-requires : goal.unreachable-requires
unreachable-requires c = c.in-Err.ensures.cases.0 (name_text c.args.bytes.now c.requires)
