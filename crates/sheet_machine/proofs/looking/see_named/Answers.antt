use Rattle.std.proofs.Common.{ap, sym, ◌∙◌}
use Rattle.sheet_requests.specs.declared.reply.Reply.TheVariants as reply
use Rattle.sheet_books.specs.declared.body.View.{View}
use Rattle.sheet_books.specs.Books.{view_with_name}
use Rattle.sheet_machine_laws.specs.Act.{by_page, page_of}
use Rattle.sheet_machine_laws.specs.Judging.{Acted}
use Rattle.sheet_machine.specs.Gives.{Gives}
use Rattle.sheet_machine.specs.Held.{holding}
use Rattle.sheet_machine.proofs.Finding.{found_view}
use Rattle.sheet_machine.proofs.looking.see_named.Goals as goal

pub returns-in-Some-clause-gives : goal.returns-in-Some-clause-gives
returns-in-Some-clause-gives g c =
    let h = holding c.args.held.now in
    let P : Acted → Type 0 = λ a. Gives a h c.see_found.new.held c.see_found.result in
    found_view h c.args.with.now
    (λ (v : View). by_page h v c.args.who c.args.with.now (λ parts. reply.Page parts) (page_of h v c.args.who c.args.with.now)) c.args.name.now c.in-Some.view P
    (ap (view_with_name h.book) (sym c.bytes.ensures.bytes) ∙ ap (λ b. view_with_name b c.bytes.result.now) (sym c.book.ensures) ∙ sym c.in-Some.ensures)
    (λ v is. c.see_found.ensures.gives v is)
