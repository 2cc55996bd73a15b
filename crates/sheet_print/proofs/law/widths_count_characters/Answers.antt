use Rattle.sheet_print.proofs.Characters as lemmas
use Rattle.sheet_print.proofs.law.widths_count_characters.Goals as goal

pub returns : goal.returns
returns c = lemmas.widths_count_characters
