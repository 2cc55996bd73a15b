use Rattle.sheet_syntax_trees.proofs.Refusing.{nested}
use Rattle.sheet_syntax_trees.proofs.law.what_is_nested_too_deeply_is_a_bracket_or_a_form.Goals as goal

pub returns : goal.returns
returns c = nested
