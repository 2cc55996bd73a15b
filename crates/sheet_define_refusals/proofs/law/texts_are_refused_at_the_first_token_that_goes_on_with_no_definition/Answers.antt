use Rattle.sheet_define_refusals.proofs.Texts.{refused_at_the_first}
use Rattle.sheet_define_refusals.proofs.law.texts_are_refused_at_the_first_token_that_goes_on_with_no_definition.Goals as goal

pub returns : goal.returns
returns c = refused_at_the_first
