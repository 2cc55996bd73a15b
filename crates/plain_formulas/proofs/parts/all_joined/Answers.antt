use Rattle.plain_formulas.proofs.Joining.{joined_start, joined_step}
use Rattle.plain_formulas.proofs.parts.all_joined.Goals as goal

pub loop-part-init : goal.loop-part-init
loop-part-init g c = joined_start c.args.parts.items c.given-all.result c.new.result c.given-all.ensures c.new.ensures

pub loop-part-preserved : goal.loop-part-preserved
loop-part-preserved g c =
    joined_step _ c.pop.new.self.items c.in-Some.part c.loop-part.all c.in_ok-all.all _ c.loop-part.invariant c.in-Some.ensures.items c.in_ok-all.ensures
