use Rattle.std.proofs.Common.{ap, sym, ◌∙◌}
use Rattle.sheet_books.specs.declared.body.Procedure.{Procedure}
use Rattle.sheet_books.specs.Books.{procedure_with_name}
use Rattle.sheet_machine_laws.specs.Act.{who, by_run, run_of}
use Rattle.sheet_machine_laws.specs.Judging.{Acted}
use Rattle.sheet_machine.specs.Gives.{Gives}
use Rattle.sheet_machine.specs.Held.{holding}
use Rattle.sheet_machine.proofs.Finding.{found_procedure}
use Rattle.sheet_machine.proofs.calling.call_named.Goals as goal

pub returns-in-Some-clause-gives : goal.returns-in-Some-clause-gives
returns-in-Some-clause-gives g c d at =
    let h = holding c.args.held.now in
    let P : Acted → Type 0 = λ a. Gives a h c.call_found.new.held c.call_found.result in
    found_procedure h c.args.with.now
    (λ (p : Procedure). by_run h c.args.caller c.args.number c.args.line.items (run_of h p (who c.args.caller d) c.args.with.now)) c.args.name.now c.in-Some.procedure P
    (ap (procedure_with_name h.book) (sym c.bytes.ensures.bytes) ∙ ap (λ b. procedure_with_name b c.bytes.result.now) (sym c.book.ensures) ∙ sym c.in-Some.ensures)
    (λ p is. c.call_found.ensures.gives d p at is)
