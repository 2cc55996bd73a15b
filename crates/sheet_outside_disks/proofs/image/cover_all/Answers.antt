use Rattle.sheet_outside_disks.proofs.Covering.{filled_step}
use Rattle.sheet_outside_disks.proofs.image.cover_all.Goals as goal

pub loop-range-preserved : goal.loop-range-preserved
loop-range-preserved c =
    filled_step c.args.image.now.items c.args.ranges.now c.loop-range.range-index _ c.args.fill c.loop-range.image.items c.cover.new.image.items
    c.loop-range-test.true c.loop-range.invariant c.in_ok-cover.ensures
