use Rattle.std.proofs.Common.{rules, ◌≡◌, ◌++◌, length, take, subst}
use Rattle.sheet_http.specs.Knowing.{KnowsUpTo}
use Rattle.sheet_http.proofs.FeedLemmas.{knows-append}
use Rattle.sheet_http.proofs.feed.Feed.feed_on.Goals as goal

pub look-self-inside-requires-clause-knows : goal.look-self-inside-requires-clause-knows
look-self-inside-requires-clause-knows c =
    let inside = c.self.inside in
    let before = inside.held.bytes in
    let front = take c.push-count.result c.args.piece.now in
    let place : length before ≡ c.len-judged.result = search rules in
    let whole : before ++ front ≡ c.bytes.result.now = search rules in
    subst (λ n. KnowsUpTo c.bytes.result.now n inside.known) place
    (subst (λ b. KnowsUpTo b (length before) inside.known) whole (knows-append before front inside.known c.self.invariant.0))
