use Rattle.std.proofs.Common.{◌+◌, option_map, sym, ap, ◌∙◌}
use Rattle.sheet_callers.specs.Callers.{with_key}
use Rattle.sheet_callers.proofs.CallerLemmas.{by_key}
use Rattle.sheet_callers.proofs.callers.Callers.find_key.Goals as goal

pub returns-in-Some-clause-caller : goal.returns-in-Some-clause-caller
returns-in-Some-clause-caller c =
    ap (option_map (λ k. k + 1)) (sym c.in-Some.is ∙ c.find.ensures)
    ∙ by_key c.self.inside.keys c.self.inside.accounts.items c.args.key.now c.self.invariant.keys_are ∙ ap (λ cs. with_key cs c.args.key.now) c.self.view_is

pub returns-in-None-clause-caller : goal.returns-in-None-clause-caller
returns-in-None-clause-caller c =
    ap (option_map (λ k. k + 1)) (sym c.in-None.is ∙ c.find.ensures)
    ∙ by_key c.self.inside.keys c.self.inside.accounts.items c.args.key.now c.self.invariant.keys_are ∙ ap (λ cs. with_key cs c.args.key.now) c.self.view_is
