use Rattle.std.proofs.Common.{sym, subst, Ok, Err}
use Rattle.sheet_engine.specs.Started.{Advances}
use Rattle.sheet_engine.proofs.Moving.{begin, settle_fresh}
use Rattle.sheet_engine.proofs.Results.{on_ok}
use Rattle.sheet_engine.proofs.settling.start.Goals as goal

pub returns-in-Known-clause-advances : goal.returns-in-Known-clause-advances
returns-in-Known-clause-advances g c =
    on_ok c.put.result
    (λ puts.
    settle_fresh c.args.book.now c.args.state.now c.requires.served c.args.standings.now c.put.new.self c.args.frames.now.items
    (c.args.object, c.args.column) (Ok c.in-Known.set) (rw c.in-Known.is at c.in_ok-set.ensures.comes) puts c.requires.under_way c.requires.fresh
    c.requires.there)
    c.put.ensures.ok

pub returns-in-Fault-clause-advances : goal.returns-in-Fault-clause-advances
returns-in-Fault-clause-advances g c =
    on_ok c.put-in-Fault.result
    (λ puts.
    settle_fresh c.args.book.now c.args.state.now c.requires.served c.args.standings.now c.put-in-Fault.new.self c.args.frames.now.items
    (c.args.object, c.args.column) (Err c.in-Fault.fault) (rw c.in-Fault.is at c.in_ok-set.ensures.comes) puts c.requires.under_way c.requires.fresh
    c.requires.there)
    c.put-in-Fault.ensures.ok

pub returns-in_ok-push-in-Need-clause-advances : goal.returns-in_ok-push-in-Need-clause-advances
returns-in_ok-push-in-Need-clause-advances g c =
    let comes = rw c.in-Need.is at c.in_ok-set.ensures.comes in
    subst (Advances c.args.book.now c.args.state.now c.args.standings.now c.put-in-Need.new.self) (sym c.in_ok-push-in-Need.ensures.items)
    (begin c.args.book.now c.args.state.now c.requires.served c.args.standings.now c.put-in-Need.new.self c.args.frames.now.items _ c.requires.under_way
    c.requires.next c.requires.fresh c.requires.there comes.1 c.in_ok-put-in-Need.ensures.ok)
