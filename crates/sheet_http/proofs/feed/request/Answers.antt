use Rattle.std.proofs.Common.{◌≡◌, ◌+◌, ◌≤◌, length, ap, ◌∙◌, arith}
use Rattle.sheet_http.specs.Heads.{route_from}
use Rattle.httparse.specs.Spans.{span_bytes}
use Rattle.sheet_http.proofs.FeedLemmas.{more_step, whole_step}
use Rattle.sheet_http.proofs.feed.request.Goals as goal

pub returns-then-held-from : goal.returns-then-held-from
returns-then-held-from c = more_step c.args.held.now c.args.demand.now c.args.from c.requires c.if-held-from.true

pub returns : goal.returns
returns c =
    let held = c.args.held.now in
    let demand = c.args.demand.now in
    let fits : c.args.from + demand.length ≤ length held = omega (arith, c.if-held-from.false, c.requires.within) in
    let name : c.in_ok-route.route ≡ route_from demand.kind (span_bytes held demand.name) = c.in_ok-route.ensures ∙ ap (route_from demand.kind) c.of.ensures in
    (omega arith, fits, whole_step held demand c.args.from c.in_ok-route.route c.requires fits name)
