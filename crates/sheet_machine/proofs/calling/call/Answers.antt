use Rattle.std.proofs.Common.{ap, sym, ◌∙◌, subst, ℕ, List}
use Rattle.sheet_callers.specs.Callers.{Caller, with_key}
use Rattle.sheet_requests.specs.Lines.{request_line}
use Rattle.sheet_wire.specs.Ranges.{ReadsBack}
use Rattle.sheet_machine_laws.specs.Act.{call}
use Rattle.sheet_machine_laws.specs.Judging.{Acted, where_fresh, caller_found}
use Rattle.sheet_machine.specs.Gives.{Gives}
use Rattle.sheet_machine.specs.Held.{holding}
use Rattle.sheet_machine.proofs.Finding.{found_caller}
use Rattle.sheet_machine.proofs.calling.call.Goals as goal

pub returns-in_ok-line-in-Some-clause-gives : goal.returns-in_ok-line-in-Some-clause-gives
returns-in_ok-line-in-Some-clause-gives g c =
    let h = holding c.args.held.now in
    let line = request_line c.args.request.now in
    let with_line : ℕ → Caller → List ℕ → Acted = λ k d l. where_fresh h d c.args.number l (call h k d c.args.name.now c.args.number l c.args.with.now) in
    let P : Acted → Type 0 = λ a. Gives a h c.call_numbered.new.held c.call_numbered.result in
    found_caller h (λ k d. with_line k d line) (with_key c.args.held.now.callers c.args.key.now) c.in-Some.caller P
    (ap (with_key c.args.held.now.callers) (sym c.bytes.ensures.bytes) ∙ sym c.in-Some.ensures.caller) c.in-Some.ensures.within
    (λ d at. subst (λ l. P (with_line c.in-Some.caller d l)) c.in_ok-line-in-Some.ensures.line (c.call_numbered.ensures.gives d at))

pub returns-in-None-clause-gives : goal.returns-in-None-clause-gives
returns-in-None-clause-gives g c =
    let h = holding c.args.held.now in
    let line = request_line c.args.request.now in
    subst
    (λ o. Gives (caller_found h (λ k d. where_fresh h d c.args.number line (call h k d c.args.name.now c.args.number line c.args.with.now)) o) h c.args.held.now c.refuse.result)
    (sym (ap (with_key c.args.held.now.callers) (sym c.bytes.ensures.bytes) ∙ sym c.in-None.ensures.caller)) c.refuse.ensures

pub returns-in_ok-line-in-Some-clause-line : goal.returns-in_ok-line-in-Some-clause-line
returns-in_ok-line-in-Some-clause-line g c p is =
    let e = c.call_numbered.ensures.line p is in
    (e ∙ c.in_ok-line-in-Some.ensures.line, λ ranges. subst (λ l. ReadsBack l c.args.request.now) (sym e) (c.in_ok-line-in-Some.ensures.reads_back ranges))
