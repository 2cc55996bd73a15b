use Rattle.sheet_eval.specs.Told.{world_told}
use Rattle.sheet_meaning.specs.Formula.{run}
use Rattle.sheet_eval.proofs.AnswerLemmas.{answered}
use Rattle.sheet_eval.proofs.PartLemmas.{if_ok}
use Rattle.sheet_eval.proofs.evaluation.answered.Goals as goal

pub returns-clause-answer : goal.returns-clause-answer
returns-clause-answer g c =
    let t = g.L.Lookup.told c.args.lookup.now in
    let r = run c.args.core.now (world_told t) c.args.place c.args.variables.now in
    if_ok c.answer.result _ _ (λ a h. answered r c.args.uses.now c.outcome_of.new.uses c.requires c.in_ok-outcome.ensures t a c.in_ok-need.ensures h) c.answer.ensures
