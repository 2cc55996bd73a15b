use Rattle.std.proofs.Common.{rules, ◌≡◌, refl, sym, subst, None}
use Rattle.std.specs.Prelude.{IsSome}
use Rattle.sheet_machine_laws.specs.Act.{act}
use Rattle.sheet_machine.specs.Becoming.{IsActed}
use Rattle.sheet_machine.specs.Held.{holding}
use Rattle.sheet_machine.proofs.Outcomes.{is_starved, is_refused, settled_of, suspended_of, can_be_recorded, is_chosen}
use Rattle.sheet_machine.proofs.Requests.{in_ranges, reads_as}
use Rattle.sheet_machine.proofs.recording.answer_sure.Goals as goal

pub returns-in-Err-clause-acted : goal.returns-in-Err-clause-acted
returns-in-Err-clause-acted g c =
    let before = c.args.held.now in
    let j = c.args.journal.now in
    let q = c.args.request.now in
    let s = c.requires.sure in
    let gives = c.in-Err.ensures.gives in
    subst (λ r. IsActed (holding before) j q r c.act.new.held j (g.D.Disk.told c.args.disk.now) (g.D.Disk.told c.args.disk.now)) (sym c.starved.ensures.reply)
    (is_starved before q j s.ready s.sure s.room c.act.new.held j (g.D.Disk.told c.args.disk.now) gives.0 gives.1 gives.2 refl s.sure)

pub returns-then-is_none-clause-acted : goal.returns-then-is_none-clause-acted
returns-then-is_none-clause-acted g c =
    let before = c.args.held.now in
    let j = c.args.journal.now in
    let q = c.args.request.now in
    let s = c.requires.sure in
    let none : c.act.new.held.pending ≡ None = search rules in
    is_refused before q j s.ready s.sure s.room c.only_accepted_change.ensures c.sound_stays.ensures c.requires.range c.act.new.held c.in-Ok.answered _
    (settled_of (act (holding before) q) (holding before) c.act.new.held c.in-Ok.answered c.in-Ok.ensures.gives.1 none)

pub record-recorded-requires-clause-can : goal.record-recorded-requires-clause-can
record-recorded-requires-clause-can g c =
    let before = c.args.held.now in
    let j = c.args.journal.now in
    let q = c.args.request.now in
    let s = c.requires.sure in
    let some : IsSome c.act.new.held.pending = search rules in
    let t = suspended_of (act (holding before) q) (holding before) c.act.new.held c.in-Ok.answered c.in-Ok.ensures.gives.1 some in
    let line = c.in-Ok.ensures.line t.pending t.is in
    can_be_recorded before q j s.ready s.sure s.room c.only_accepted_change.ensures c.sound_stays.ensures c.requires.range c.act.new.held c.in-Ok.answered t line.0
    (reads_as t.pending.line.items q (line.1 (in_ranges q c.requires.range)) c.requires.served)

pub returns-clause-acted : goal.returns-clause-acted
returns-clause-acted g c =
    let before = c.args.held.now in
    let j = c.args.journal.now in
    let q = c.args.request.now in
    let s = c.requires.sure in
    let some : IsSome c.act.new.held.pending = search rules in
    let t = suspended_of (act (holding before) q) (holding before) c.act.new.held c.in-Ok.answered c.in-Ok.ensures.gives.1 some in
    let line = c.in-Ok.ensures.line t.pending t.is in
    is_chosen before q j s.ready s.sure s.room c.only_accepted_change.ensures c.sound_stays.ensures c.requires.range c.act.new.held c.in-Ok.answered t line.0
    (reads_as t.pending.line.items q (line.1 (in_ranges q c.requires.range)) c.requires.served) c.record-recorded.new.held c.record-recorded.new.journal _ _
    c.record-recorded.result c.args.fault c.choose.result c.record-recorded.ensures.becomes c.choose.ensures c.requires.fault
