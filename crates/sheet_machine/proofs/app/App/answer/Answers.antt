use Rattle.std.proofs.Common.{ap, ◌∙◌}
use Rattle.sheet_machine.specs.Recording.{App}
use Rattle.sheet_machine.specs.Told.{told}
use Rattle.sheet_machine.proofs.Answering.{columns_are}
use Rattle.sheet_machine.proofs.app.App.answer.Goals as goal

pub returns-in-None-clause-body : goal.returns-in-None-clause-body
returns-in-None-clause-body g c =
    c.answer_in_memory.ensures.body
    ∙ ap (λ nodes. told nodes c.answer_in_memory.result.reply) (columns_are c.self.inside.held ∙ ap (λ (x : App). x.machine.held.book.columns) c.self.view_is)

pub returns-in-Some-clause-body : goal.returns-in-Some-clause-body
returns-in-Some-clause-body g c =
    c.answer_recorded.ensures.body
    ∙ ap (λ nodes. told nodes c.answer_recorded.result.reply) (columns_are c.self.inside.held ∙ ap (λ (x : App). x.machine.held.book.columns) c.self.view_is)
