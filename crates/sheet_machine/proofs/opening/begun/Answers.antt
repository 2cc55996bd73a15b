use Rattle.std.proofs.Common.{sym, ◌∙◌}
use Rattle.sheet_journal.specs.JournalCalls.{entry_of as entry_read}
use Rattle.sheet_machine.proofs.TakingRecords.{begun_by}
use Rattle.sheet_machine.proofs.opening.begun.Goals as goal

pub returns-in-Some : goal.returns-in-Some
returns-in-Some c =
    begun_by (entry_read c.args.first.now) c.in-Some.key.now c.in-Some.definition.now c.begun_with.result c.if-first-ne-FIRST.false
    (sym c.as_slice.ensures.value ∙ c.in-Some.ensures) c.begun_with.ensures
