use Rattle.std.proofs.Common.{rules, ◌≡◌, sym, ap, ◌∙◌, drop, true}
use Rattle.std.proofs.lemmas.Bool.{true≢false}
use Rattle.sheet_http.specs.Heads.{has_name, is_route_name}
use Rattle.sheet_http.proofs.FeedLemmas.{route_step}
use Rattle.sheet_http.proofs.head.find_route.Goals as goal
use Rattle.sheet_http.proofs.head.find_route.Goals.{else-has_name-via-then-has_name+else-not-is_route_name, else-has_name-via-else-has_name}

pub returns : goal.returns
returns c =
    let path = c.path_of-path.result.now in
    let found = c.in_ok-kind.ensures in
    let back : c.split_at.result.1.now ≡ drop c.in_ok-kind.start path = search rules in
    let name : has_name c.in_ok-kind.kind ≡ true → is_route_name (drop c.in_ok-kind.start path) ≡ true =
    elim c.else-has_name.branch [
      | else-has_name-via-then-has_name+else-not-is_route_name w ↦ λ has. ap is_route_name (sym back) ∙ sym w.is_route_name.ensures
          ∙ w.if-not-is_route_name.false
      | else-has_name-via-else-has_name w ↦ λ has. absurd (true≢false (sym has ∙ sym c.has_name.ensures ∙ w.if-has_name.false))
    ] in
    route_step c.args.target.now path c.in_ok-kind.kind c.in_ok-kind.start c.path_of-path.ensures found.0 found.1 name
