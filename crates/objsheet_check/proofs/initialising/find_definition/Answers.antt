use Rattle.objsheet_check.proofs.Texts.{all_found}
use Rattle.objsheet_check.proofs.initialising.find_definition.Goals as goal

pub returns-in-Refused-clause-found : goal.returns-in-Refused-clause-found
returns-in-Refused-clause-found g c =
    let found = all_found c.texts_stand_for_one_definition.ensures c.in_ok-text.text.items c.as_slice.result.now c.in_ok-check_text.field-0 _ _
    c.as_slice.ensures.value c.in_ok-text.ensures.read c.in_ok-check_text.ensures in
    rw c.in-Refused.is at found
