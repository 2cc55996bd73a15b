use Rattle.std.proofs.Common.{◌==◌, ap, sym, ◌∙◌, if◌then◌else◌}
use Rattle.sheet_callers.specs.Callers.{with_key}
use Rattle.sheet_requests.specs.declared.reply.Refusal.TheVariants as refused
use Rattle.sheet_machine_laws.specs.Act.{counts}
use Rattle.sheet_machine_laws.specs.Judging.{Acted, refuse}
use Rattle.sheet_machine.specs.Gives.{Gives}
use Rattle.sheet_machine.specs.Held.{holding}
use Rattle.sheet_machine.proofs.Finding.{found_caller, the_operator, another}
use Rattle.sheet_machine.proofs.looking.stats.Goals as goal

pub returns-then-caller-eq-OPERATOR : goal.returns-then-caller-eq-OPERATOR
returns-then-caller-eq-OPERATOR c =
    let h = holding c.args.held.now in
    let P : Acted → Type 0 = λ a. Gives a h c.args.held.now c.count.result in
    found_caller h (λ k d. if k == 1 then (h, counts h) else refuse h refused.NotOperator) (with_key c.args.held.now.callers c.args.key.now) c.in-Some.caller P
    (ap (with_key c.args.held.now.callers) (sym c.bytes.ensures.bytes) ∙ sym c.in-Some.ensures.caller) c.in-Some.ensures.within
    (λ d at. the_operator h c.in-Some.caller (h, counts h) P c.if-caller-eq-OPERATOR.true c.count.ensures)

pub returns-else-caller-eq-OPERATOR : goal.returns-else-caller-eq-OPERATOR
returns-else-caller-eq-OPERATOR c =
    let h = holding c.args.held.now in
    let P : Acted → Type 0 = λ a. Gives a h c.args.held.now c.refuse.result in
    found_caller h (λ k d. if k == 1 then (h, counts h) else refuse h refused.NotOperator) (with_key c.args.held.now.callers c.args.key.now) c.in-Some.caller P
    (ap (with_key c.args.held.now.callers) (sym c.bytes.ensures.bytes) ∙ sym c.in-Some.ensures.caller) c.in-Some.ensures.within
    (λ d at. another h c.in-Some.caller (h, counts h) P c.if-caller-eq-OPERATOR.false c.refuse.ensures)
