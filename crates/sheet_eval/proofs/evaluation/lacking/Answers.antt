use Rattle.std.proofs.Common.{◌∙◌, ◌∷◌, [], ap, sym}
use Rattle.std.specs.Prelude.{filter}
use Rattle.sheet_meaning.specs.Support.{with_cells}
use Rattle.sheet_eval.specs.Told.{lacks}
use Rattle.sheet_eval.proofs.AnswerLemmas.{lacking_whole, lacking_none}
use Rattle.sheet_eval.proofs.evaluation.lacking.Goals as goal

pub returns-in-None : goal.returns-in-None
returns-in-None g c =
    c.new-need.ensures ∙ lacking_none (lacks (g.L.Lookup.told c.args.lookup.now)) c.args.uses.now.cells (sym c.first_cell.ensures ∙ c.in-None.is)

pub returns-in_ok-note_others-in-Some : goal.returns-in_ok-note_others-in-Some
returns-in_ok-note_others-in-Some g c =
    let l = lacks (g.L.Lookup.told c.args.lookup.now) in
    lacking_whole l c.args.uses.now.cells c.in-Some.cell (sym c.first_cell.ensures ∙ c.in-Some.is)
    (c.in_ok-note_lacking-in-Some.ensures ∙ ap (λ n. with_cells n (filter l (c.in-Some.cell ∷ []))) c.new-need.ensures)
    (c.in_ok-note_others-in-Some.ensures ∙ ap (λ cs. with_cells c.note_lacking.new.need (filter l cs)) c.other_cells.ensures)
