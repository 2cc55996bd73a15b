use Rattle.std.proofs.Common.{ap, ◌∙◌, ◌++◌, append-nil}
use Rattle.sheet_eval.specs.Told.{world_told}
use Rattle.sheet_eval.proofs.FormLemmas.{at_variables}
use Rattle.sheet_eval.proofs.PartLemmas.{if_ok}
use Rattle.sheet_eval.proofs.evaluation.outcome_of.Goals as goal

pub returns : goal.returns
returns g c =
    let w = world_told (g.L.Lookup.told c.args.lookup.now) in
    let v = c.args.variables.now in
    if_ok c.work.result _ _ (λ o h. at_variables c.args.core.now w c.args.place (ap (λ b. v ++ b) c.new-bound.ensures ∙ append-nil v) h) c.work.ensures.came
