use Rattle.std.proofs.Common.{◌≡◌, ◌==◌, ap, sym, ◌∙◌, subst, ℕ, List, Some, if◌then◌else◌}
use Rattle.sheet_callers.specs.Callers.{Caller, caller_at, with_key}
use Rattle.sheet_requests.specs.Lines.{request_line}
use Rattle.sheet_wire.specs.Ranges.{ReadsBack}
use Rattle.sheet_requests.specs.declared.reply.Refusal.TheVariants as refused
use Rattle.sheet_machine_laws.specs.Act.{admit}
use Rattle.sheet_machine_laws.specs.Judging.{Acted, refuse, where_fresh, caller_found}
use Rattle.sheet_machine.specs.Gives.{Gives}
use Rattle.sheet_machine.specs.Held.{holding}
use Rattle.sheet_machine.proofs.Finding.{found_caller, the_operator, another}
use Rattle.sheet_machine.proofs.admitting.admit_asked.Goals as goal

pub returns-then-caller-ne-OPERATOR-clause-gives : goal.returns-then-caller-ne-OPERATOR-clause-gives
returns-then-caller-ne-OPERATOR-clause-gives c =
    let h = holding c.args.held.now in
    let line = request_line c.args.request.now in
    let fresh : Caller → Acted = λ d. where_fresh h d c.args.number line (admit h c.args.newkey.now c.args.name.now c.args.number c.args.object line) in
    let P : Acted → Type 0 = λ a. Gives a h c.args.held.now c.refuse.result in
    found_caller h (λ k d. if k == 1 then fresh d else refuse h refused.NotOperator) (with_key c.args.held.now.callers c.args.key.now) c.in-Some.caller P
    (ap (with_key c.args.held.now.callers) (sym c.bytes.ensures.bytes) ∙ sym c.in-Some.ensures.caller) c.in-Some.ensures.within
    (λ d at. another h c.in-Some.caller (fresh d) P c.if-caller-ne-OPERATOR.true c.refuse.ensures)

pub returns-in_ok-line-in-Some-clause-gives : goal.returns-in_ok-line-in-Some-clause-gives
returns-in_ok-line-in-Some-clause-gives c =
    let h = holding c.args.held.now in
    let line = request_line c.args.request.now in
    let with_line : Caller → List ℕ → Acted = λ d l. where_fresh h d c.args.number l (admit h c.args.newkey.now c.args.name.now c.args.number c.args.object l) in
    let P : Acted → Type 0 = λ a. Gives a h c.admit_numbered.new.held c.admit_numbered.result in
    found_caller h (λ k d. if k == 1 then with_line d line else refuse h refused.NotOperator) (with_key c.args.held.now.callers c.args.key.now) c.in-Some.caller P
    (ap (with_key c.args.held.now.callers) (sym c.bytes.ensures.bytes) ∙ sym c.in-Some.ensures.caller) c.in-Some.ensures.within
    (λ d at. the_operator h c.in-Some.caller (with_line d line) P c.if-caller-ne-OPERATOR.false
    (subst (λ l. P (with_line d l)) c.in_ok-line-in-Some.ensures.line
    (c.admit_numbered.ensures.gives d (subst (λ k. caller_at c.args.held.now.callers k ≡ Some d) c.if-caller-ne-OPERATOR.false at))))

pub returns-in-None-clause-gives : goal.returns-in-None-clause-gives
returns-in-None-clause-gives c =
    let h = holding c.args.held.now in
    let line = request_line c.args.request.now in
    let fresh : Caller → Acted = λ d. where_fresh h d c.args.number line (admit h c.args.newkey.now c.args.name.now c.args.number c.args.object line) in
    subst (λ o. Gives (caller_found h (λ k d. if k == 1 then fresh d else refuse h refused.NotOperator) o) h c.args.held.now c.refuse-in-None.result)
    (sym (ap (with_key c.args.held.now.callers) (sym c.bytes.ensures.bytes) ∙ sym c.in-None.ensures.caller)) c.refuse-in-None.ensures

pub returns-in_ok-line-in-Some-clause-line : goal.returns-in_ok-line-in-Some-clause-line
returns-in_ok-line-in-Some-clause-line c p is =
    let e = c.admit_numbered.ensures.line p is in
    (e ∙ c.in_ok-line-in-Some.ensures.line, λ ranges. subst (λ l. ReadsBack l c.args.request.now) (sym e) (c.in_ok-line-in-Some.ensures.reads_back ranges))
