use Rattle.std.proofs.Common.{refl}
use Rattle.sheet_requests.specs.Reading.ReadsAs.{no_memory}
use Rattle.sheet_requests.specs.declared.request.WireRefusal.TheVariants.{NoMemory}
use Rattle.objsheet.specs.Sessions.IsAnswer.{holds_none}
use Rattle.objsheet.proofs.session.Session.refuse.Goals as goal

pub returns-in-Ok : goal.returns-in-Ok
returns-in-Ok c = (holds_none c.args.refusal c.requires.short c.requires.reads, λ other. c.in-Ok.ensures)

pub returns-in-Err : goal.returns-in-Err
returns-in-Err c = (holds_none NoMemory c.requires.short no_memory, λ other. absurd (other refl))
