use Rattle.std.proofs.Common.{ap, sym, ◌∙◌, subst}
use Rattle.sheet_callers.specs.Callers.{with_key}
use Rattle.sheet_machine_laws.specs.Act.{who, see}
use Rattle.sheet_machine_laws.specs.Judging.{Acted}
use Rattle.sheet_machine.specs.Gives.{Gives}
use Rattle.sheet_machine.specs.Held.{holding}
use Rattle.sheet_machine.proofs.Finding.{found_caller}
use Rattle.sheet_machine.proofs.looking.see.Goals as goal

pub returns-in-Some-clause-gives : goal.returns-in-Some-clause-gives
returns-in-Some-clause-gives g c =
    let h = holding c.args.held.now in
    let P : Acted → Type 0 = λ a. Gives a h c.see_named.new.held c.see_named.result in
    found_caller h (λ k d. see h (who k d) c.args.name.now c.args.with.now) (with_key c.args.held.now.callers c.args.key.now) c.in-Some.caller P
    (ap (with_key c.args.held.now.callers) (sym c.bytes.ensures.bytes) ∙ sym c.in-Some.ensures.caller) c.in-Some.ensures.within
    (λ d at. subst (λ w. P (see h w c.args.name.now c.args.with.now)) (c.who-who.ensures d at) c.see_named.ensures.gives)
