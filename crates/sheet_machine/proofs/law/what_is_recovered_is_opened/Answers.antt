use Rattle.sheet_machine.proofs.Leftovers.{opened_with}
use Rattle.sheet_machine.proofs.law.what_is_recovered_is_opened.Goals as goal

pub returns : goal.returns
returns c file now entries h result image recovers o sure =
    opened_with c.texts_stand_for_one_definition.ensures c.bytes_stand_for_one_list_of_records.ensures c.a_record_cut_short_stands_in_no_journal.ensures file now
    entries h image recovers result o sure
