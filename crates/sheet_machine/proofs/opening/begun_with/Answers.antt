use Rattle.sheet_machine.proofs.TakingRecords.{refused_start}
use Rattle.sheet_machine.proofs.opening.begun_with.Goals as goal

pub returns-in-Err-started : goal.returns-in-Err-started
returns-in-Err-started c =
    refused_start c.texts_stand_for_one_definition.ensures c.args.definition.now c.args.key.now c.in-Ok.key c.in-Err-started.refusal c.not_started.result
    c.in-Ok.ensures.0 c.not_started.ensures c.in-Err-started.ensures
