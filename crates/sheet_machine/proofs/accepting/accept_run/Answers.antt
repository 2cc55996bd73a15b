use Rattle.std.proofs.Common.{rules, ◌≡◌, refl, sym, subst, inr, false, Some, Ok, arith}
use Rattle.std.proofs.lemmas.Bool.{lt-leb}
use Rattle.sheet_requests.specs.declared.reply.Answer.TheVariants as answer
use Rattle.sheet_machine_laws.specs.Act.{accept, most_requests}
use Rattle.sheet_machine.specs.declared.held.Held.{Held}
use Rattle.sheet_machine.specs.declared.held.Pending.{Pending}
use Rattle.sheet_values.specs.declared.NoMemory.{NoMemory}
use Rattle.sheet_machine.specs.Gives.{Gives}
use Rattle.sheet_machine.specs.Held.{holding, before_changes}
use Rattle.sheet_machine.specs.Told.{told}
use Rattle.sheet_machine.proofs.Suspending.{suspended}
use Rattle.sheet_machine.proofs.accepting.accept_run.Goals as goal

pub returns-in-Ok-clause-gives : goal.returns-in-Ok-clause-gives
returns-in-Ok-clause-gives c =
    let mid = c.args.held.now in
    let p : Pending = record { caller = c.args.caller; number = c.args.number; line = c.args.line; kept = c.in-Ok.field-0.kept; admitted = false; mark = c.args.mark } in
    let there : Held = record mid { pending = Some p } in
    let is : c.suspend.new.self ≡ there = c.suspend.ensures in
    let given = answer.Values c.args.set in
    let s = suspended (before_changes mid) (holding mid) there p given c.in-Ok.field-0.answered refl refl refl refl c.in-Ok.ensures.kept c.in-Ok.ensures.reply
    (lt-leb most_requests mid.accepted (omega (arith, c.if-held-ge-MOST_REQUESTS.false)))
    (record { next = c.requires.next; room = omega (arith, c.if-held-ge-MOST_REQUESTS.false); mark = c.requires.mark; others = λ e. cc }) in
    let cols : c.columns.result.now ≡ mid.engine.book.columns = search rules in
    subst (λ n. Gives {E = NoMemory} (accept (before_changes mid) (holding mid) c.args.caller c.args.number c.args.line.items given) (before_changes mid) n (Ok c.in-Ok.field-0.answered)) (sym is)
    (subst (λ nodes. c.in-Ok.field-0.answered.body.items ≡ told nodes c.in-Ok.field-0.answered.reply) cols c.in-Ok.ensures.body, inr s)
