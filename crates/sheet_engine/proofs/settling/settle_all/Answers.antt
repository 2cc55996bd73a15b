use Rattle.sheet_engine.proofs.Moving.{settled_one, advanced}
use Rattle.sheet_engine.proofs.settling.settle_all.Goals as goal

pub loop-k-init : goal.loop-k-init
loop-k-init g c =
    settled_one c.args.book.now c.args.state.now c.requires.served c.args.standings.now c.settle.new.standings c.first_of-first.result
    c.in_ok-settle.ensures.under_way c.in_ok-settle.ensures.grows (c.requires.lacking.each c.first_of-first.result c.first_of-first.ensures)
    c.in_ok-settle.ensures.found

pub loop-k-preserved : goal.loop-k-preserved
loop-k-preserved g c =
    advanced c.args.book.now c.args.state.now c.requires.served c.args.standings.now c.settle-in-loop-k.new.standings c.loop-k.standings c.loop-k.invariant
    c.in_ok-settle-2.ensures.under_way c.in_ok-settle-2.ensures.grows
