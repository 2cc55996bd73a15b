-- What an App answers, without a journal and with one.
use Rattle.std.specs.Prelude.{◌≡◌, Option, Some, None}
use Rattle.sheet_outside.specs.Moments.{Contents}
use Rattle.sheet_requests.specs.declared.request.Request.{Request}
use Rattle.sheet_requests.specs.declared.reply.Reply.{Reply}
use Rattle.sheet_journal.specs.Journal.{Journal}
use Rattle.sheet_machine_laws.specs.Machine.{Holding, sure}
use Rattle.sheet_machine_laws.specs.Step.{StepInMemory}
use Rattle.sheet_machine.specs.Recording.{App, IsAnswered}

-- an App without a journal
abbrev pub in_memory : Holding → App
in_memory h = record { machine = sure h; journal = None }

-- without a journal: one step, and nothing is ever in doubt
pub record AnswersInMemory (before : App) (q : Request) (r : Reply) (after : App) : Type 0 where
  pub step : StepInMemory before.machine.held q r after.machine.held
  pub stays : after ≡ in_memory after.machine.held

-- with a journal
pub record AnswersInJournal (before : App) (was : Journal) (q : Request) (r : Reply) (after : App) (disk later : Option Contents) : Type 0 where
  pub journal : Journal
  pub has : after.journal ≡ Some journal
  pub answered : IsAnswered before.machine was q r after.machine journal disk later
