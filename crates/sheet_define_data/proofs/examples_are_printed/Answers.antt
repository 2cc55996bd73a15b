use Rattle.sheet_define_data.proofs.Printed as printed
use Rattle.sheet_define_data.proofs.examples_are_printed.Goals as goal

pub returns : goal.returns
returns c = (printed.courses_are_printed, printed.workshop_is_printed)
