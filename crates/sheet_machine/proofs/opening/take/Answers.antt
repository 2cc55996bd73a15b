use Rattle.std.proofs.Common.{subst, Ok}
use Rattle.sheet_journal.specs.JournalCalls.{entry_of as entry_read}
use Rattle.sheet_requests.specs.Reading.{ReadsAs}
use Rattle.sheet_requests.specs.declared.request.Route.TheVariants.{Line}
use Rattle.sheet_machine.specs.Held.{holding}
use Rattle.sheet_machine.proofs.Requests.{no_reads}
use Rattle.sheet_machine.proofs.TakingRecords.{goes_by, refused_line}
use Rattle.sheet_machine.proofs.opening.take.Goals as goal

pub accept-requires-clause-served : goal.accept-requires-clause-served
accept-requires-clause-served g c = no_reads Line c.as_slice.result.now (Ok c.in-Ok.request) c.in-Ok.ensures.reads

pub returns-in-Ok-clause-goes_on : goal.returns-in-Ok-clause-goes_on
returns-in-Ok-clause-goes_on g c =
    goes_by (holding c.args.held.now) (holding c.accept.new.held) (entry_read c.args.further.now) c.in-Ok.request c.accept.result c.if-further-ne-REQUEST.false
    (subst (λ l. ReadsAs Line l (Ok c.in-Ok.request)) c.as_slice.ensures.value c.in-Ok.ensures.reads) c.accept.ensures.accepts

pub returns-in-Err-clause-goes_on : goal.returns-in-Err-clause-goes_on
returns-in-Err-clause-goes_on g c =
    refused_line (holding c.args.held.now) (holding c.args.held.now) (entry_read c.args.further.now) c.as_slice.result.now c.in-Err.refusal c.not_read.result
    c.as_slice.ensures.value c.not_read.ensures c.in-Err.ensures.reads
