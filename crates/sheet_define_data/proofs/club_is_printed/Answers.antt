use Rattle.sheet_define_data.proofs.Printed as printed
use Rattle.sheet_define_data.proofs.club_is_printed.Goals as goal

pub returns : goal.returns
returns c = printed.club_is_printed
