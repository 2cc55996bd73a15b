use Rattle.std.proofs.Common.{rules, ◌≡◌, sym, ap, subst, take, map, Ok, Err, bytes_eq, codes}
use Rattle.httparse.specs.Spans.{span_bytes, header_bytes}
use Rattle.sheet_http.specs.Heads.{judged, Judges}
use Rattle.sheet_http.specs.Knowing.{IsDemanded}
use Rattle.sheet_http.specs.Stream.{RefusesFirst}
use Rattle.sheet_http.proofs.FeedLemmas.{judges_same, demanded_step, refused_step}
use Rattle.sheet_http.proofs.feed.judge.Goals as goal

pub returns-in-Ok-judge_head : goal.returns-in-Ok-judge_head
returns-in-Ok-judge_head c =
    let line = take c.args.count c.args.held.now in
    let spans = c.args.spans.now in
    let demand = c.in-Ok-judge_head.demand in
    let target : c.in-Ok.target.now ≡ span_bytes line spans.path = search rules in
    let answer : Judges (span_bytes line spans.path) (Ok demand)
    (judged (span_bytes line spans.method) (span_bytes line spans.path) spans.version (map (header_bytes line) (take spans.headers c.args.fields.now))) =
    judges_same (Ok demand) c.of-method.result.now (span_bytes line spans.method) c.in-Ok.target.now (span_bytes line spans.path) spans.version
    (map (header_bytes line) c.split_at.result.0.now) (map (header_bytes line) (take spans.headers c.args.fields.now))
    c.of-method.ensures target (ap (map (header_bytes line)) c.split_at.ensures.front) c.in-Ok-judge_head.ensures in
    subst (λ d. IsDemanded c.args.held.now d spans.len) (sym c.placed.ensures)
    (demanded_step c.args.held.now c.args.count c.args.fields.now spans c.requires.head.0 demand c.requires.short.0 c.requires.short.1 c.requires.head.1
    c.requires.within.path.0 c.requires.within.path.1 answer)

pub returns-in-Err : goal.returns-in-Err
returns-in-Err c =
    let line = take c.args.count c.args.held.now in
    let spans = c.args.spans.now in
    let refusal = c.in-Err.refusal in
    let target : c.in-Ok.target.now ≡ span_bytes line spans.path = search rules in
    let answer : Judges (span_bytes line spans.path) (Err refusal)
    (judged (span_bytes line spans.method) (span_bytes line spans.path) spans.version (map (header_bytes line) (take spans.headers c.args.fields.now))) =
    judges_same (Err refusal) c.of-method.result.now (span_bytes line spans.method) c.in-Ok.target.now (span_bytes line spans.path) spans.version
    (map (header_bytes line) c.split_at.result.0.now) (map (header_bytes line) (take spans.headers c.args.fields.now))
    c.of-method.ensures target (ap (map (header_bytes line)) c.split_at.ensures.front) c.in-Err.ensures in
    let is_head : c.eq.result ≡ bytes_eq (span_bytes line spans.method) (codes "HEAD") = search rules in
    subst (RefusesFirst c.args.held.now refusal) (sym is_head)
    (refused_step c.args.held.now c.args.count c.args.fields.now spans c.requires.head.0 refusal c.requires.short.0 c.requires.short.1 c.requires.head.1 answer)
