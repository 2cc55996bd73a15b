use Rattle.sheet_define_data.proofs.Courses as courses
use Rattle.sheet_define_data.proofs.Workshop as workshop
use Rattle.sheet_define_data.proofs.examples_are_read.Goals as goal

pub returns : goal.returns
returns c = (courses.courses_is_read, workshop.workshop_is_read)
