use Rattle.std.proofs.Common.{sym, subst, ℕ, List}
use Rattle.sheet_requests.specs.Lines.{request_line}
use Rattle.sheet_machine_laws.specs.Act.{act, call, admit}
use Rattle.sheet_requests.specs.declared.request.Request.{Request}
use Rattle.sheet_machine_laws.specs.Judging.{for_caller, for_operator, Acted, where_fresh}
use Rattle.sheet_machine.specs.Gives.{Gives}
use Rattle.sheet_machine.specs.Held.{holding}
use Rattle.sheet_machine.proofs.acting.act.Goals as goal

pub returns-in-Do-clause-gives : goal.returns-in-Do-clause-gives
unfolding act
returns-in-Do-clause-gives g c =
    let h = holding c.args.held.now in
    let with_line : List ℕ → Acted = λ l. for_caller h c.in-Do.key (λ k d. where_fresh h d c.in-Do.number l (call h k d c.in-Do.name c.in-Do.number l c.in-Do.with)) in
    subst (λ q. Gives (act h q) h c.call.new.held c.call.result) (sym c.in-Do.is)
    (subst (λ (q : Request). Gives (with_line (request_line q)) h c.call.new.held c.call.result) c.in-Do.is c.call.ensures.gives)

pub returns-in-See-clause-gives : goal.returns-in-See-clause-gives
unfolding act
returns-in-See-clause-gives g c = subst (λ q. Gives (act (holding c.args.held.now) q) (holding c.args.held.now) c.see.new.held c.see.result) (sym c.in-See.is) c.see.ensures.gives

pub returns-in-Admit-clause-gives : goal.returns-in-Admit-clause-gives
unfolding act
returns-in-Admit-clause-gives g c =
    let h = holding c.args.held.now in
    let with_line : List ℕ → Acted =
    λ l. for_operator h c.in-Admit.key (λ d. where_fresh h d c.in-Admit.number l
    (admit h c.in-Admit.newkey c.in-Admit.name c.in-Admit.number c.in-Admit.object l)) in
    subst (λ q. Gives (act h q) h c.admit_asked.new.held c.admit_asked.result) (sym c.in-Admit.is)
    (subst (λ (q : Request). Gives (with_line (request_line q)) h c.admit_asked.new.held c.admit_asked.result) c.in-Admit.is c.admit_asked.ensures.gives)

pub returns-in-Stats-clause-gives : goal.returns-in-Stats-clause-gives
unfolding act
returns-in-Stats-clause-gives g c =
    subst (λ q. Gives (act (holding c.args.held.now) q) (holding c.args.held.now) c.args.held.now c.stats.result) (sym c.in-Stats.is) c.stats.ensures
