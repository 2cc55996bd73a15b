use Rattle.std.proofs.Common.{ap, sym, ◌∙◌, subst}
use Rattle.sheet_callers.specs.Judging.{judged}
use Rattle.sheet_machine_laws.specs.Act.{call}
use Rattle.sheet_machine.specs.Gives.{Gives}
use Rattle.sheet_machine.specs.Held.{holding}
use Rattle.sheet_machine.specs.Judging.{reply_unless_fresh}
use Rattle.sheet_machine.proofs.Finding.{replied, next_of_fresh}
use Rattle.sheet_machine.proofs.calling.call_numbered.Goals as goal

pub call_named-requires-clause-next : goal.call_named-requires-clause-next
call_named-requires-clause-next g c =
    next_of_fresh c.args.held.now.callers c.args.caller c.args.number c.args.line.items c.requires.within
    (λ d at. sym c.in-None.is ∙ c.in_ok-reply.ensures.told d at ∙ ap (λ l. reply_unless_fresh c.args.number (judged d c.args.number l)) c.as_slice.ensures.value)

pub returns-in-Some-clause-gives : goal.returns-in-Some-clause-gives
returns-in-Some-clause-gives g c d at =
    let h = holding c.args.held.now in
    let go = call h c.args.caller d c.args.name.now c.args.number c.args.line.items c.args.with.now in
    let e = sym c.in-Some.is ∙ c.in_ok-reply.ensures.told d at ∙ ap (λ l. reply_unless_fresh c.args.number (judged d c.args.number l)) c.as_slice.ensures.value in
    subst (λ a. Gives a h c.args.held.now c.tell.result) (sym (replied h c.args.number go (judged d c.args.number c.args.line.items) c.in-Some.reply e)) c.tell.ensures
