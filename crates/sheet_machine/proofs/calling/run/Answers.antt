use Rattle.std.proofs.Common.{◌≡◌, ap, sym, ◌∙◌, subst, List, [], ◌∷◌, ◌++◌, length, Some, Ok}
use Rattle.sheet_books.specs.declared.body.Procedure.{Procedure}
use Rattle.sheet_machine_laws.specs.Act.{who, by_run, run_of, accept}
use Rattle.sheet_machine.specs.Gives.{Gives}
use Rattle.sheet_machine.specs.Held.{holding, before_changes}
use Rattle.std.specs.Prelude.{slice_get}
use Rattle.sheet_books.specs.Schemas.{schema_of}
use Rattle.sheet_columns.specs.Statements.{statements_in}
use Rattle.sheet_meaning.specs.Procedure.{run_procedure}
use Rattle.sheet_meaning.specs.Statements.{Point}
use Rattle.sheet_meaning.specs.declared.refusal.Refusal.{Refusal as Stop}
use Rattle.sheet_meaning.specs.declared.workbook.Caller.{Caller as Who}
use Rattle.sheet_procs.specs.Runs.{IsRefusal}
use Rattle.sheet_requests.specs.declared.reply.Answer.TheVariants as answer
use Rattle.sheet_state.specs.Stored.{Moment, Stored}
use Rattle.sheet_machine.specs.Held.{first_of}
use Rattle.sheet_machine.specs.declared.held.Held.{Held}
use Rattle.std.specs.Prelude.{Result}
use Rattle.sheet_machine.proofs.Ending.{first_is, ends_too, refusal_too, run_is}
use Rattle.sheet_machine.proofs.KeptFree.{runs_alike}
use Rattle.sheet_machine.proofs.calling.run.Goals as goal

pub returns-in-Ok-clause-gives : goal.returns-in-Ok-clause-gives
returns-in-Ok-clause-gives g c d p at is =
    let old = c.args.held.now in
    let h = holding old in
    let new = c.run_procedure.new.engine in
    let a = c.in-Ok.ensures.acts in
    let w = who c.args.caller d in
    let same : a.procedure ≡ p = let e : Some a.procedure ≡ Some p = sym a.is ∙ is in cc in
    let s = schema_of old.engine.book in
    let r : Procedure → Who → Result Point Stop =
    λ q v. run_procedure s q.allow (statements_in q.body) v c.args.with.now old.engine.state.present.state old.engine.kept in
    let first : r p w ≡ Ok a.acts.0 = sym (ap (λ q. r q c.who-who.result) same ∙ ap (r p) (c.who-who.ensures d at)) ∙ a.acts.1 in
    let too = ends_too (r p w) (run_of h p w c.args.with.now) a.acts.0 first
    (runs_alike s p.allow (statements_in p.body) w c.args.with.now old.engine.state.present.state old.engine.kept []) in
    let mid : Held = record { engine = new; callers = old.callers; accepted = old.accepted; pending = old.pending; alloc = old.alloc } in
    let mid_is : holding mid ≡ record h { state = a.acts.0.state; kept = [] } =
    ap (λ b. record h { book = b; state = new.state.present.state; kept = [] }) c.in-Ok.ensures.book
    ∙ ap (λ x. record h { state = x; kept = [] }) a.acts.2.state in
    let start : slice_get (new.state.earlier ++ new.state.present ∷ []) 0 ≡ Some old.engine.state.present =
    subst (λ (xs : List Moment). slice_get (new.state.earlier ++ new.state.present ∷ []) (length xs) ≡ Some old.engine.state.present) c.requires.ready.settled
    a.acts.2.back.state in
    let f = first_is new.state.earlier new.state.present old.engine.state.present start in
    let before_is : before_changes mid ≡ h =
    ap (λ b. record h { book = b; state = (first_of new.state.earlier new.state.present).state }) c.in-Ok.ensures.book
    ∙ ap (λ (m : Moment). record h { state = m.state }) (sym f) in
    let whole = run_is h (holding mid) c.args.caller c.args.number c.args.line.items a.acts.0 c.in-Ok.set (run_of h p w c.args.with.now) too a.acts.2.reply mid_is in
    subst (λ x. Gives (by_run h c.args.caller c.args.number c.args.line.items (run_of h p w c.args.with.now)) x c.accept_run.new.held c.accept_run.result) before_is
    (subst (λ y. Gives y (before_changes mid) c.accept_run.new.held c.accept_run.result)
    (ap (λ x. accept x (holding mid) c.args.caller c.args.number c.args.line.items (answer.Values c.in-Ok.set)) before_is ∙ whole) c.accept_run.ensures.gives)

pub returns-in-Err-clause-gives : goal.returns-in-Err-clause-gives
returns-in-Err-clause-gives g c d p at is =
    let old = c.args.held.now in
    let h = holding old in
    let new = c.run_procedure.new.engine in
    let a = c.in-Err.ensures.acts in
    let w = who c.args.caller d in
    let same : a.procedure ≡ p = let e : Some a.procedure ≡ Some p = sym a.is ∙ is in cc in
    let s = schema_of old.engine.book in
    let r : Procedure → Who → Result Point Stop =
    λ q v. run_procedure s q.allow (statements_in q.body) v c.args.with.now old.engine.state.present.state old.engine.kept in
    let first : IsRefusal c.in-Err.refusal (r p w) =
    subst (λ (x : Result Point Stop). IsRefusal c.in-Err.refusal x) (ap (λ q. r q c.who-who.result) same ∙ ap (r p) (c.who-who.ensures d at)) a.acts.0 in
    let too = refusal_too c.in-Err.refusal (r p w) (run_of h p w c.args.with.now) first
    (runs_alike s p.allow (statements_in p.body) w c.args.with.now old.engine.state.present.state old.engine.kept []) in
    let mid : Held = record { engine = new; callers = old.callers; accepted = old.accepted; pending = old.pending; alloc = old.alloc } in
    let mid_is : holding mid ≡ h =
    ap (λ b. record h { book = b; state = new.state.present.state }) c.in-Err.ensures.book ∙ ap (λ (k : Stored). record h { state = k.present.state }) a.acts.1 in
    subst (λ x. Gives (by_run x c.args.caller c.args.number c.args.line.items (run_of h p w c.args.with.now)) x mid c.refuse_run.result) mid_is
    (c.refuse_run.ensures c.args.caller c.args.number c.args.line.items (run_of h p w c.args.with.now) too)
