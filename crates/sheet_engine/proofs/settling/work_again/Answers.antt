use Rattle.std.proofs.Common.{refl, sym, subst, Ok, Err}
use Rattle.sheet_engine_laws.specs.Chains.{LastReads}
use Rattle.sheet_engine.specs.Seen.{workbook_of}
use Rattle.sheet_engine.specs.Started.{IsUnderWay, cells_started}
use Rattle.sheet_engine.proofs.Moving.{close, last_needs, other_needs}
use Rattle.sheet_engine.proofs.Results.{on_ok}
use Rattle.sheet_engine.proofs.settling.work_again.Goals as goal

pub returns-in-Known : goal.returns-in-Known
returns-in-Known g c =
    on_ok c.put.result
    (λ puts.
    close c.args.book.now c.args.state.now c.requires.served c.args.standings.now c.put.new.self c.args.frames.now.items c.args.frame (Ok c.in-Known.set)
    (rw c.in-Known.is at c.in_ok-set.ensures.comes) puts c.requires.under_way)
    c.put.ensures.ok

pub returns-in-Fault : goal.returns-in-Fault
returns-in-Fault g c =
    on_ok c.put-in-Fault.result
    (λ puts.
    close c.args.book.now c.args.state.now c.requires.served c.args.standings.now c.put-in-Fault.new.self c.args.frames.now.items c.args.frame
    (Err c.in-Fault.fault) (rw c.in-Fault.is at c.in_ok-set.ensures.comes) puts c.requires.under_way)
    c.put-in-Fault.ensures.ok

pub visit-requires-clause-under_way : goal.visit-requires-clause-under_way
visit-requires-clause-under_way g c =
    let comes = rw c.in-Need.is at c.in_ok-set.ensures.comes in
    subst (IsUnderWay c.args.book.now c.args.state.now c.args.standings.now) (sym c.in_ok-push-in-Need.ensures.items)
    (other_needs c.args.book.now c.args.state.now c.args.frames.now.items c.args.frame c.args.standings.now _ c.requires.under_way refl comes.1)

pub visit-requires-clause-read : goal.visit-requires-clause-read
visit-requires-clause-read g c =
    let comes = rw c.in-Need.is at c.in_ok-set.ensures.comes in
    subst (λ fs. LastReads (workbook_of c.args.book.now c.args.state.now) (cells_started fs) c.first_of-first.result)
    (sym c.in_ok-push-in-Need.ensures.items)
    (last_needs c.args.book.now c.args.state.now c.args.frames.now.items _ c.args.standings.now c.first_of-first.result
    (other_needs c.args.book.now c.args.state.now c.args.frames.now.items c.args.frame c.args.standings.now _ c.requires.under_way refl comes.1)
    c.first_of-first.ensures)
