use Rattle.sheet_machine_laws.specs.Step.{taken}
use Rattle.sheet_machine.specs.Recovering.{entries_of}
use Rattle.sheet_machine.proofs.Recoveries.{taken_go_on, recovers_more}
use Rattle.sheet_machine.proofs.law.what_was_taken_is_recovered.Goals as goal

pub returns : goal.returns
returns c entries events before after recovers leads =
    recovers_more entries (entries_of (taken events)) before after recovers (taken_go_on before after events leads)
