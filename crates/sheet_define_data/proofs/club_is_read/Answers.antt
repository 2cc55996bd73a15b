use Rattle.sheet_define_data.proofs.Club as club
use Rattle.sheet_define_data.proofs.club_is_read.Goals as goal

pub returns : goal.returns
returns c = club.club_is_read
