use Rattle.std.proofs.Common.{length, ap}
use Rattle.sheet_define_data.proofs.Printed.{courses_are_printed, workshop_is_printed, club_is_printed}
use Rattle.sheet_define_readback.proofs.law.the_examples_and_the_club_have_their_lengths.Goals as goal

pub returns : goal.returns
returns c = (ap length courses_are_printed, ap length workshop_is_printed, ap length club_is_printed)
