use Rattle.sheet_journal.proofs.OneList.{not_cut_short}
use Rattle.sheet_journal.proofs.law.a_record_cut_short_stands_in_no_journal.Goals as goal

pub returns : goal.returns
returns c bytes front all place r cut image = not_cut_short bytes front all place r cut image
