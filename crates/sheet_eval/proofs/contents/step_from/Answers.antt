use Rattle.std.proofs.Common.{◌≡◌, sym, subst, length, IfOk, rules}
use Rattle.sheet_meaning.specs.Formula.{step}
use Rattle.sheet_eval.specs.Told.{world_told, Came}
use Rattle.sheet_eval.specs.Turns.{way_of}
use Rattle.sheet_eval.proofs.StepLemmas.{only_one}
use Rattle.sheet_eval.proofs.contents.step_from.Goals as goal

pub returns-then-len-eq1 : goal.returns-then-len-eq1
returns-then-len-eq1 g c =
    let w = world_told (g.L.Lookup.told c.args.scene.now.lookup.now) in
    let one : length c.args.set.now ≡ 1 = search rules in
    subst (λ s. IfOk c.step_from_one.result (λ o. Came (step (way_of w c.args.way) s) c.args.uses.now o c.step_from_one.new.uses))
    (sym (only_one c.args.set.now c.at.result.now one c.at.ensures)) c.step_from_one.ensures
