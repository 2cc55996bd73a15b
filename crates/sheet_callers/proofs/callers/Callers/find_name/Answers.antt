use Rattle.std.proofs.Common.{◌+◌, option_map, sym, ap, ◌∙◌}
use Rattle.sheet_callers.specs.Callers.{with_name}
use Rattle.sheet_callers.proofs.CallerLemmas.{by_name}
use Rattle.sheet_callers.proofs.callers.Callers.find_name.Goals as goal

pub returns-in-Some : goal.returns-in-Some
returns-in-Some c =
    ap (option_map (λ k. k + 1)) (sym c.in-Some.is ∙ c.find.ensures)
    ∙ by_name c.self.inside.names c.self.inside.accounts.items c.args.name.now c.self.invariant.names_are
    ∙ ap (λ cs. with_name cs c.args.name.now) c.self.view_is

pub returns-in-None : goal.returns-in-None
returns-in-None c =
    ap (option_map (λ k. k + 1)) (sym c.in-None.is ∙ c.find.ensures)
    ∙ by_name c.self.inside.names c.self.inside.accounts.items c.args.name.now c.self.invariant.names_are
    ∙ ap (λ cs. with_name cs c.args.name.now) c.self.view_is
