use Rattle.std.proofs.Common.{ap, ◌∙◌, Some}
use Rattle.std.specs.Prelude.{if◌then◌else◌}
use Rattle.sheet_meaning.specs.Support.{is_cell}
use Rattle.sheet_engine.specs.Standings.{stands}
use Rattle.sheet_engine.proofs.standings.Standings.put.Goals as goal

pub returns-in-Ok-clause-ok : goal.returns-in-Ok-clause-ok
returns-in-Ok-clause-ok c x =
    c.in-Ok.ensures.updates.0 x
    ∙ ap (λ es. if is_cell (c.args.object, c.args.column) x then Some c.args.standing else stands es x) c.self.view_is
