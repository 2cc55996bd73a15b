use Rattle.std.proofs.Common.{ap, ◌∙◌, drop, ◌≤◌, ◌-◌, length, arith}
use Rattle.std.proofs.lemmas.List.{length-take}
use Rattle.sheet_lines.proofs.Feeds.{advanced}
use Rattle.sheet_lines.proofs.reader.LineReader.advance.Goals as goal

pub returns-clause-bytes : goal.returns-clause-bytes
returns-clause-bytes c =
    let inside = c.self.inside in
    let size = ap (λ u. length u.ahead) c.self.view_is in
    let within : c.args.count ≤ inside.end - inside.at = omega (arith, length-take (inside.end - inside.at) (drop inside.at inside.piece.items)) in
    advanced inside.piece.items inside.at inside.end c.args.count within ∙ ap (λ u. drop c.args.count u.ahead) c.self.view_is
