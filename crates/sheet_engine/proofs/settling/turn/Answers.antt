use Rattle.std.proofs.Common.{sym, subst}
use Rattle.sheet_engine_laws.specs.Chains.{LastReads}
use Rattle.sheet_engine.specs.Seen.{workbook_of}
use Rattle.sheet_engine.specs.Started.{IsUnderWay, cells_started}
use Rattle.sheet_engine.proofs.Moving.{last_needs, next_place}
use Rattle.sheet_engine.proofs.settling.turn.Goals as goal

pub visit-requires-clause-under_way : goal.visit-requires-clause-under_way
visit-requires-clause-under_way g c =
    subst (IsUnderWay c.args.book.now c.args.state.now c.args.standings.now) (sym c.in_ok-push-in-Some.ensures.items)
    (next_place c.args.book.now c.args.state.now c.args.frames.now.items c.args.frame c.args.standings.now c.in-Some.next c.requires.under_way)

pub visit-requires-clause-read : goal.visit-requires-clause-read
visit-requires-clause-read g c =
    subst (λ fs. LastReads (workbook_of c.args.book.now c.args.state.now) (cells_started fs) c.in-Some.cell) (sym c.in_ok-push-in-Some.ensures.items)
    (last_needs c.args.book.now c.args.state.now c.args.frames.now.items _ c.args.standings.now c.in-Some.cell
    (next_place c.args.book.now c.args.state.now c.args.frames.now.items c.args.frame c.args.standings.now c.in-Some.next c.requires.under_way)
    c.in-Some.ensures.needed)
