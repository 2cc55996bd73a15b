use Rattle.sheet_define_reading.proofs.WholeCompleteness.{whole_given}
use Rattle.sheet_define_reading.proofs.law.what_stands_there_is_read.Goals as goal

pub returns : goal.returns
returns c = whole_given
