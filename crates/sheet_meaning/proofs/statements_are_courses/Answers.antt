use Rattle.sheet_meaning.proofs.Leading as laws
use Rattle.sheet_meaning.proofs.statements_are_courses.Goals as goal

pub returns : goal.returns
returns c = laws.statements_are_courses
