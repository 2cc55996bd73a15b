use Rattle.std.proofs.Common.{◌≡◌, ◌∙◌, sym, subst, true, Ok, rules}
use Rattle.sheet_meaning.specs.Formula.{variable_read}
use Rattle.sheet_eval.specs.Told.{world_told, Came}
use Rattle.sheet_eval.proofs.Reading.{lent_came}
use Rattle.sheet_eval.proofs.contents.read_lent.Goals as goal

pub returns : goal.returns
returns g c =
    let w = world_told (g.L.Lookup.told c.args.scene.now.lookup.now) in
    let s = c.args.set.now in
    let yes : c.all_read.result ≡ true = search rules in
    subst (λ t. Came (variable_read w s) c.args.uses.now (Ok t) c.note_live.new.uses) (sym c.lent.ensures)
    (lent_came w s c.args.uses.now c.note_live.new.uses (sym c.all_read.ensures ∙ yes) c.in_ok-note_live.ensures)
