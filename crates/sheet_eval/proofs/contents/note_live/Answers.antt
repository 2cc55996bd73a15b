use Rattle.std.proofs.Common.{◌≡◌, ◌∷◌, ◌∙◌, ap, sym, rules}
use Rattle.sheet_meaning.specs.Formula.{live_reads}
use Rattle.sheet_eval.specs.Told.{noted}
use Rattle.sheet_eval.proofs.Reading.{note_more}
use Rattle.sheet_eval.proofs.contents.note_live.Goals as goal

pub loop-value-preserved : goal.loop-value-preserved
loop-value-preserved c =
    let cut : c.loop-value.rest.now ≡ c.in-Some.value.now ∷ c.in-Some.more.now = search rules in
    note_more c.loop-value.uses c.in-Some.value.now c.in-Some.more.now c.in_ok-note_value.ensures
    ∙ ap (λ r. noted c.loop-value.uses (live_reads r)) (sym cut)
    ∙ c.loop-value.invariant
