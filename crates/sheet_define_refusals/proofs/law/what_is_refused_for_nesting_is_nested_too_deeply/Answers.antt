use Rattle.sheet_define_refusals.proofs.Texts.{refused_for_nesting}
use Rattle.sheet_define_refusals.proofs.law.what_is_refused_for_nesting_is_nested_too_deeply.Goals as goal

pub returns : goal.returns
returns c = refused_for_nesting
