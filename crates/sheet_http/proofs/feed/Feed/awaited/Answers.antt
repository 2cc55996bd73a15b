use Rattle.std.proofs.Common.{rules, ◌≡◌, ◌-◌, length, sym, ap, ◌∙◌, subst}
use Rattle.sheet_http.specs.Lacking.{Lacks}
use Rattle.sheet_http.specs.Waiting.{bytes_wanted}
use Rattle.sheet_http.proofs.FeedLemmas.{lacks}
use Rattle.sheet_http.proofs.feed.Feed.awaited.Goals as goal

pub returns-clause-lacks : goal.returns-clause-lacks
returns-clause-lacks c =
    let inside = c.self.inside in
    let count : bytes_wanted inside.known (length inside.held.bytes) - length inside.held.bytes ≡ c.lacking.result =
    ap (λ n. n - length inside.held.bytes) (sym c.self.invariant.1) ∙ sym c.lacking.ensures.count in
    let same : inside.held.bytes ≡ c.args.self.now.bytes = search rules in
    subst (λ b. Lacks b c.lacking.result) same (subst (Lacks inside.held.bytes) count (lacks inside.held.bytes inside.known c.self.invariant.0))
