use Rattle.sheet_define_reading.proofs.Texts.{one_definition}
use Rattle.sheet_define_reading.proofs.law.texts_stand_for_one_definition.Goals as goal

pub returns : goal.returns
returns c = one_definition
