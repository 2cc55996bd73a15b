use Rattle.std.proofs.Common.{◌≡◌, sym, subst, true, rules}
use Rattle.sheet_engine.specs.Standings.{stands, is_started, is_there}
use Rattle.sheet_engine.specs.Started.{Advances}
use Rattle.sheet_engine.proofs.Moving.{close_cycle}
use Rattle.sheet_engine.proofs.Results.{is_waiting, lacking_there, on_both}
use Rattle.sheet_engine.proofs.settling.visit.Goals as goal

pub returns-then-is_started : goal.returns-then-is_started
returns-then-is_started g c =
    let standing = stands c.args.standings.now (c.args.object, c.args.column) in
    let waits : is_started (stands c.args.standings.now (c.args.object, c.args.column)) ≡ true = search rules in
    on_both c.close_all.result
    (λ empty closed.
    subst (Advances c.args.book.now c.args.state.now c.args.standings.now c.close_all.new.standings) (sym empty)
    (close_cycle c.args.book.now c.args.state.now c.requires.served c.args.standings.now c.close_all.new.standings c.args.frames.now.items
    (c.args.object, c.args.column) c.requires.under_way c.requires.read (is_waiting standing waits)
    (lacking_there standing (is_there c.args.book.now c.args.state.now.present.state c.args.object c.args.column) c.requires.lacking) closed))
    c.close_all.ensures.empty c.close_all.ensures.closed
