use Rattle.std.proofs.Common.{◌-◌, drop, length, ap, ◌∙◌, List}
use Rattle.sheet_syntax_trees.specs.declared.token.Token.{Token}
use Rattle.sheet_syntax.proofs.Formulas.{exact_at}
use Rattle.sheet_syntax.proofs.read.read_from.Goals as goal

pub returns-clause-exact : goal.returns-clause-exact
returns-clause-exact c =
    exact_at c.args.tokens.now c.args.from (length c.as_slice-list.result.now - length c.in_ok-formed.behind.now) c.text_length.result c.in_ok-formed.formed
    c.split_at.result.1.now c.in_ok-formed.behind.now c.text_length.ensures
    (c.split_at.ensures.back ∙ ap (drop c.args.from) c.as_slice-list.ensures) c.in_ok-formed.ensures.exact
    (ap (λ (l : List Token). length l - length c.in_ok-formed.behind.now) c.as_slice-list.ensures)
