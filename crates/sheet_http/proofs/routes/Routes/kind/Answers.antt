use Rattle.std.proofs.Common.{arith, ◌∙◌, sym, ap, option_map}
use Rattle.matchit.specs.Seek.{first}
use Rattle.sheet_http.proofs.RouteLemmas.{route_kind, bytes_text}
use Rattle.sheet_http.proofs.routes.Routes.kind.Goals as goal

pub returns-in-Ok : goal.returns-in-Ok
returns-in-Ok c =
    let f = c.in-Ok.ensures.found in
    let h = c.args.self.now.holds in
    let t = c.type_inv.path in
    let all = route_kind c.args.path.now (bytes_text c.args.path.now (λ i. omega (arith, t i))) in
    ap (option_map (λ r. r.value)) (sym f ∙ ap (λ r. first r c.args.path.now) h) ∙ all

pub returns-in-Err : goal.returns-in-Err
returns-in-Err c =
    let f = c.in-Err.ensures.missing in
    let h = c.args.self.now.holds in
    let t = c.type_inv.path in
    ap (option_map (λ r. r.value)) (sym f ∙ ap (λ r. first r c.args.path.now) h)
    ∙ route_kind c.args.path.now (bytes_text c.args.path.now (λ i. omega (arith, t i)))
