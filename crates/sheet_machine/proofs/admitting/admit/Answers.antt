use Rattle.std.proofs.Common.{rules, ◌≡◌, refl, ap, sym, ◌∙◌, subst, inr, true, List, [], ◌∷◌, ◌++◌, length, length-append, Some, None, Ok, arith, if◌then◌else◌}
use Rattle.sheet_callers.specs.Callers.{Caller}
use Rattle.sheet_requests.specs.declared.reply.Refusal.TheVariants as refused
use Rattle.sheet_requests.specs.declared.reply.Reply.TheVariants as reply
use Rattle.sheet_machine_laws.specs.Judging.{refuse}
use Rattle.sheet_values.specs.declared.NoMemory.{NoMemory}
use Rattle.sheet_machine.specs.Gives.{Gives}
use Rattle.sheet_machine.specs.Held.{holding, before_changes, left_out, first_of}
use Rattle.std.proofs.Common.{◌+◌, ◌-◌, take}
use Rattle.std.proofs.lemmas.Bool.{le-leb, lt-leb}
use Rattle.sheet_callers.specs.Admitting.{refused as refused_admission}
use Rattle.sheet_callers.specs.Callers.{new_caller, caller_at}
use Rattle.sheet_callers.specs.Judging.{IsNext}
use Rattle.sheet_state.specs.Stored.{Moment}
use Rattle.sheet_callers.specs.Keeping.{keeping}
use Rattle.sheet_meaning.specs.declared.refusal.Which.TheVariants.{Requests}
use Rattle.sheet_requests.specs.declared.reply.Answer.TheVariants as answer
use Rattle.sheet_machine_laws.specs.Act.{admit_unless, most_requests}
use Rattle.sheet_machine.specs.Admissions.{IsAdmissionRefusal}
use Rattle.sheet_machine.specs.declared.held.Held.{Held}
use Rattle.sheet_machine.specs.declared.held.Pending.{Pending}
use Rattle.sheet_machine.proofs.Admissions.{not_admitted, last_goes}
use Rattle.sheet_machine.specs.Told.{told}
use Rattle.sheet_machine.proofs.Suspending.{suspended, operator_next}
use Rattle.sheet_machine.proofs.admitting.admit.Goals as goal

pub returns-in-Err-clause-gives : goal.returns-in-Err-clause-gives
returns-in-Err-clause-gives c =
    let old = c.args.held.now in
    let h = holding old in
    let not = not_admitted old.callers c.admit.new.self c.drop.inside.text.items c.in_ok-name.name c.args.object c.in-Err.refusal c.in-Err.ensures in
    let why : IsAdmissionRefusal c.in-Err.refusal (refused_admission old.callers c.args.newkey.now c.args.name.now) =
    subst (λ k. IsAdmissionRefusal c.in-Err.refusal (refused_admission old.callers k c.args.name.now)) (c.drop.view_is ∙ c.in_ok-key-inside.ensures)
    (subst (λ k. IsAdmissionRefusal c.in-Err.refusal (refused_admission old.callers c.drop.inside.text.items k)) c.in_ok-name.ensures not.0) in
    let mid : Held = record old { callers = c.admit.new.self } in
    let mid_is : holding mid ≡ h = ap (λ cs. record h { callers = cs }) not.1 in
    subst
    (λ y. Gives (admit_unless y c.args.newkey.now c.args.name.now c.args.number c.args.object c.args.line.items
    (refused_admission old.callers c.args.newkey.now c.args.name.now)) y mid c.refuse_admission.result) mid_is
    (c.refuse_admission.ensures c.args.newkey.now c.args.name.now c.args.line.items c.args.number c.args.object
    (refused_admission old.callers c.args.newkey.now c.args.name.now) why)

pub returns-then-held-ge-MOST_REQUESTS-clause-gives : goal.returns-then-held-ge-MOST_REQUESTS-clause-gives
returns-then-held-ge-MOST_REQUESTS-clause-gives c =
    let old = c.args.held.now in
    let h = holding old in
    let given = answer.Caller (length h.callers + 1) in
    let full = refused.Full Requests most_requests in
    let none : refused_admission old.callers c.args.newkey.now c.args.name.now ≡ None =
    ap (λ k. refused_admission old.callers k c.args.name.now) (sym (c.drop.view_is ∙ c.in_ok-key-inside.ensures))
    ∙ ap (λ k. refused_admission old.callers c.drop.inside.text.items k) (sym c.in_ok-name.ensures) ∙ c.in_default.ensures.0 in
    let gone : c.take_back.new.self ≡ old.callers =
    c.take_back.ensures ∙ ap (λ (cs : List Caller). take (length cs - 1) cs) c.in_default.ensures.2
    ∙ last_goes old.callers (new_caller c.drop.inside.text.items c.in_ok-name.name (Some c.args.object)) in
    let mid : Held = record old { callers = c.take_back.new.self } in
    let mid_is : holding mid ≡ h = ap (λ cs. record h { callers = cs }) gone in
    subst (λ o. Gives (admit_unless h c.args.newkey.now c.args.name.now c.args.number c.args.object c.args.line.items o) h mid c.refuse.result) (sym none)
    (subst
    (λ b. Gives (if b then refuse h full else (
      record h {
        callers = keeping (h.callers ++ new_caller c.args.newkey.now c.args.name.now (Some c.args.object) ∷ []) 1 c.args.number c.args.line.items given;
        accepted = h.accepted + 1;
      },
      reply.Accepted c.args.number given,
    )) h mid c.refuse.result)
    (sym (le-leb most_requests old.accepted c.if-held-ge-MOST_REQUESTS.true))
    (subst (λ y. Gives (refuse y full) y mid c.refuse.result) mid_is
    (subst (λ f. Gives (refuse (holding mid) f) (holding mid) mid c.refuse.result) c.no_room.ensures c.refuse.ensures)))

pub returns-clause-gives : goal.returns-clause-gives
returns-clause-gives c =
    let old = c.args.held.now in
    let h = holding old in
    let given = answer.Caller (length h.callers + 1) in
    let d = new_caller c.args.newkey.now c.args.name.now (Some c.args.object) in
    let none : refused_admission old.callers c.args.newkey.now c.args.name.now ≡ None =
    ap (λ k. refused_admission old.callers k c.args.name.now) (sym (c.drop.view_is ∙ c.in_ok-key-inside.ensures))
    ∙ ap (λ k. refused_admission old.callers c.drop.inside.text.items k) (sym c.in_ok-name.ensures) ∙ c.in_default.ensures.0 in
    let callers_are : c.admit.new.self ≡ old.callers ++ d ∷ [] =
    c.in_default.ensures.2 ∙ ap (λ k. old.callers ++ new_caller k c.in_ok-name.name (Some c.args.object) ∷ []) (c.drop.view_is ∙ c.in_ok-key-inside.ensures)
    ∙ ap (λ k. old.callers ++ new_caller c.args.newkey.now k (Some c.args.object) ∷ []) c.in_ok-name.ensures in
    let p : Pending = record {
      caller = 1;
      number = c.args.number;
      line = c.args.line;
      kept = c.in_ok-prepared.prepared.kept;
      admitted = true;
      mark = c.mark-mark.result;
    } in
    let there : Held = record old { callers = c.admit.new.self; pending = Some p } in
    let is : c.suspend.new.self ≡ there = c.suspend.ensures in
    let long = length-append old.callers (d ∷ []) in
    let many = ap (λ (cs : List Caller). length cs) callers_are in
    let some = c.count.ensures.some in
    let gone : left_out there p ≡ h =
    ap (λ (cs : List Caller). record (before_changes old) { callers = take (length cs - 1) cs }) callers_are
    ∙ ap (λ cs. record (before_changes old) { callers = cs }) (last_goes old.callers d)
    ∙ ap (λ ms. record h { state = (first_of ms old.engine.state.present).state }) c.requires.ready.settled in
    let s = suspended h (record h { callers = old.callers ++ d ∷ [] }) there p given c.in_ok-prepared.prepared.answered refl
    (ap (λ cs. record h { callers = cs }) callers_are) gone refl
    (c.in_ok-prepared.ensures.kept ∙ ap answer.Caller (ap (λ n. n + 1) c.count.ensures.count))
    (c.in_ok-prepared.ensures.reply ∙ ap (λ n. reply.Accepted c.args.number (answer.Caller (n + 1))) c.count.ensures.count)
    (lt-leb most_requests old.accepted (omega (arith, c.if-held-ge-MOST_REQUESTS.false)))
    (record {
      next = subst (λ cs. IsNext (caller_at cs 1) c.args.number) (sym callers_are) (operator_next old.callers d c.args.number c.requires.next);
      room = omega (arith, c.if-held-ge-MOST_REQUESTS.false);
      mark = c.mark-mark.ensures ∙ ap (λ (ms : List Moment). length ms) c.requires.ready.settled;
      others = λ e. omega (arith, long, many, some, c.count.ensures.count);
    }) in
    let cols : c.columns.result.now ≡ old.engine.book.columns = search rules in
    subst
    (λ n. Gives {E = NoMemory} (admit_unless h c.args.newkey.now c.args.name.now c.args.number c.args.object c.args.line.items
    (refused_admission old.callers c.args.newkey.now c.args.name.now)) h n (Ok c.in_ok-prepared.prepared.answered)) (sym is)
    (subst
    (λ o. Gives {E = NoMemory} (admit_unless h c.args.newkey.now c.args.name.now c.args.number c.args.object c.args.line.items o) h there (Ok c.in_ok-prepared.prepared.answered)) (sym none)
    (subst (λ nodes. c.in_ok-prepared.prepared.answered.body.items ≡ told nodes c.in_ok-prepared.prepared.answered.reply) cols c.in_ok-prepared.ensures.body, inr s))
