use Rattle.sheet_define_readback.proofs.Whole.{reads_back}
use Rattle.sheet_define_readback.proofs.law.a_printed_definition_reads_back.Goals as goal

pub returns : goal.returns
returns c = reads_back
