use Rattle.std.proofs.Common.{rules, ◌≡◌, ◌+◌, ◌∙◌, [], length, sym}
use Rattle.sheet_http.proofs.FeedLemmas.{knows_start}
use Rattle.sheet_http.proofs.feed.Feed.new.Goals as goal

pub invariant_of-result : goal.invariant_of-result
invariant_of-result c =
    let none : c.want.new.self.bytes ≡ [] = c.want.ensures.bytes ∙ c.in_ok-held.ensures in
    (knows_start c.want.new.self.bytes none, c.want.ensures.wanted ∙ (λ i. length (sym none i) + 1), tt, search rules, tt)
