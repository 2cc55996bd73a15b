use Rattle.sheet_define_reading.proofs.StatementSoundness.{whole_sound}
use Rattle.sheet_define_reading.proofs.law.what_is_read_stands_there.Goals as goal

pub returns : goal.returns
returns c = whole_sound
