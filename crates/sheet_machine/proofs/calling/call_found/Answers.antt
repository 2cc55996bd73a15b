use Rattle.std.proofs.Common.{◌≡◌, ap, sym, ◌∙◌, subst, Some}
use Rattle.sheet_books.specs.declared.body.Procedure.{Procedure}
use Rattle.sheet_machine_laws.specs.Act.{who, by_run, run_of}
use Rattle.sheet_machine.specs.Gives.{Gives}
use Rattle.sheet_machine.specs.Held.{holding}
use Rattle.sheet_machine_laws.specs.Judging.{where_good}
use Rattle.std.specs.Prelude.{slice_get}
use Rattle.sheet_books.specs.declared.book.Contents.{Contents}
use Rattle.sheet_meaning.specs.Arguments.{bad_argument}
use Rattle.sheet_machine.proofs.calling.call_found.Goals as goal

pub returns-in-None-clause-gives : goal.returns-in-None-clause-gives
returns-in-None-clause-gives g c d p at is =
    let h = holding c.args.held.now in
    let same : c.procedure.result.now ≡ p =
    let f : Some c.procedure.result.now ≡ Some p =
    sym c.procedure.ensures.procedure ∙ ap (λ (b : Contents). slice_get b.procedures c.args.procedure) c.book.ensures ∙ is in cc in
    let good = sym (c.in-None.ensures ∙ ap (λ (q : Procedure). bad_argument h.state q.parameters c.args.with.now) same) in
    subst
    (λ o. Gives (where_good h (by_run h c.args.caller c.args.number c.args.line.items (run_of h p (who c.args.caller d) c.args.with.now)) o) h c.run.new.held c.run.result)
    (sym good) (c.run.ensures.gives d p at is)
