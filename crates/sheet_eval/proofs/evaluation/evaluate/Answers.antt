use Rattle.std.proofs.Common.{ap, ◌∙◌}
use Rattle.sheet_eval.specs.Told.{Noted, world_told, with_items}
use Rattle.sheet_meaning.specs.Formula.{run}
use Rattle.sheet_meaning.specs.Support.{with_cells}
use Rattle.sheet_eval.proofs.AnswerLemmas.{cells_used, items_used}
use Rattle.sheet_eval.proofs.evaluation.evaluate.Goals as goal

pub returns-clause-items : goal.returns-clause-items
returns-clause-items g c =
    let r = run c.args.core.now (world_told (g.L.Lookup.told c.args.lookup.now)) c.args.place c.args.variables.now in
    c.in_ok-tell.ensures.items ∙ ap (with_items c.args.reads.now.items) (items_used _ r _ c.new-uses.ensures c.in_ok-answer.ensures.uses)

pub returns-clause-cells : goal.returns-clause-cells
returns-clause-cells g c =
    let r = run c.args.core.now (world_told (g.L.Lookup.told c.args.lookup.now)) c.args.place c.args.variables.now in
    c.in_ok-tell.ensures.cells
    ∙ ap (with_cells c.args.reads.now.cells) (cells_used c.new-uses.result r _ (ap (λ (n : Noted). n.cells) c.new-uses.ensures) c.in_ok-answer.ensures.uses)
