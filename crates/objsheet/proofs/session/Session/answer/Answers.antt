use Rattle.std.proofs.Common.{◌≡◌, sym, ap, ◌∙◌, subst, Ok}
use Rattle.sheet_requests.specs.declared.request.Route.TheVariants.{Line}
use Rattle.sheet_columns.specs.declared.tree.Node.{Node}
use Rattle.sheet_machine_laws.specs.Machine.{Holding}
use Rattle.sheet_machine.specs.Recording.{App}
use Rattle.sheet_machine.proofs.Requests.{in_range, no_reads}
use Rattle.objsheet.specs.Serving.{IsAnswered}
use Rattle.objsheet.specs.Sessions.IsAnswer.{holds_request}
use Rattle.objsheet.proofs.Requests.{printed_reply}
use Rattle.objsheet.proofs.session.Session.answer.Goals.{in-Do-1, in-See-1, in-Reads-1, in-Admit-1, in-Stats-1}
use Rattle.objsheet.proofs.session.Session.answer.Goals as goal

pub answer-requires-clause-range : goal.answer-requires-clause-range
answer-requires-clause-range g c = in_range c.in-Ok.request (c.in-Ok.ensures.ranges tt)

pub answer-requires-clause-served : goal.answer-requires-clause-served
answer-requires-clause-served g c = no_reads Line c.args.line.now (Ok c.in-Ok.request) c.in-Ok.ensures.reads

pub returns-in-Ok-clause-answered : goal.returns-in-Ok-clause-answered
returns-in-Ok-clause-answered g c =
    let was = c.self.inside.app in
    let held : was.machine.held ≡ c.args.self.now = c.self.view_is in
    let same : c.match-request.self ≡ c.answer.new.self.machine.held =
    elim c.match-request.branch [
      | in-Do-1 w ↦ w.self-is
      | in-See-1 w ↦ w.self-is
      | in-Reads-1 w ↦ w.self-is
      | in-Admit-1 w ↦ w.self-is
      | in-Stats-1 w ↦ w.self-is
    ] in
    let none = ap (λ (a : App). a.journal) c.self.invariant in
    let Now : Holding → Type 0 = λ now. IsAnswered was.machine.held c.args.line.now c.answer.result.reply c.answer.result.body.items now in
    let Before : Holding → Type 0 = λ h. IsAnswered h c.args.line.now c.answer.result.reply c.answer.result.body.items c.match-request.self in
    let is : Now c.answer.new.self.machine.held = (
      holds_request c.in-Ok.request c.answer.result.reply c.answer.new.self.machine.held c.requires c.in-Ok.ensures.reads (c.answer.ensures.memory none).step,
      printed_reply was.machine.held.book.columns c.answer.result.reply c.answer.result.body.items c.answer.ensures.body,
    ) in
    subst Before held (subst Now (sym same) is)
