use Rattle.sheet_journal.proofs.OneList.{one_list}
use Rattle.sheet_journal.proofs.law.bytes_stand_for_one_list_of_records.Goals as goal

pub returns : goal.returns
returns c bytes some others a b = one_list bytes some others a b
