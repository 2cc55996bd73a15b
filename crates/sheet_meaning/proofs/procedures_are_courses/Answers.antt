use Rattle.sheet_meaning.proofs.Leading as laws
use Rattle.sheet_meaning.proofs.procedures_are_courses.Goals as goal

pub returns : goal.returns
returns c = laws.procedures_are_courses
