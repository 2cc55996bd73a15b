use Rattle.sheet_syntax_print.proofs.Back.{reads_back}
use Rattle.sheet_syntax_print.proofs.law.a_printed_formula_reads_back.Goals as goal

pub returns : goal.returns
returns c = reads_back
