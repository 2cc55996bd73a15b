use Rattle.std.proofs.Common.{◌≡◌, ◌∷◌, ◌++◌, ◌∙◌, ap, sym, subst, rules}
use Rattle.std.specs.Prelude.{filter}
use Rattle.sheet_values.specs.Sets.{IsRising}
use Rattle.sheet_meaning.specs.Formula.{is_read}
use Rattle.sheet_eval.specs.Told.{world_told}
use Rattle.sheet_eval.proofs.Reading.{read_more}
use Rattle.sheet_eval.proofs.contents.read_values.Goals as goal

pub loop-value-preserved : goal.loop-value-preserved
loop-value-preserved g c =
    let p = is_read (world_told (g.L.Lookup.told c.args.lookup.now)) in
    let cut : c.loop-value.rest.now ≡ c.in-Some.value.now ∷ c.in-Some.more.now = search rules in
    read_more p c.args.set.now c.loop-value.read c.in-Some.more.now c.in-Some.value.now (subst IsRising c.as_slice-rest.ensures.values c.as_slice-rest.ensures.rising)
    (ap (λ r. c.loop-value.read ++ filter p r) (sym cut) ∙ c.loop-value.invariant) c.in_ok-add_read.ensures
