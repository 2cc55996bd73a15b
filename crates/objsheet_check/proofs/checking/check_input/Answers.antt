use Rattle.objsheet_check.proofs.Texts.{all_found}
use Rattle.objsheet_check.proofs.checking.check_input.Goals as goal

pub returns-clause-found : goal.returns-clause-found
returns-clause-found g c =
    all_found c.texts_stand_for_one_definition.ensures c.in_ok-text.text.items c.as_slice.result.now c.in_ok-verdict.verdict _ _ c.as_slice.ensures.value
    c.in_ok-text.ensures.read c.in_ok-verdict.ensures
