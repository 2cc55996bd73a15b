use Rattle.std.proofs.Common.{arith, ◌+◌, ap, ◌∙◌}
use Rattle.sheet_syntax_trees.specs.declared.scan.Scan.TheVariants.{Found}
use Rattle.sheet_syntax_trees.specs.declared.token.TokenKind.TheVariants.{Text}
use Rattle.sheet_syntax_trees.proofs.TextLemmas.{short_text, no_text}
use Rattle.sheet_syntax_trees.proofs.scan.text_token.Goals as goal

pub returns-in_ok-name-in-Ok : goal.returns-in_ok-name-in-Ok
returns-in_ok-name-in-Ok c =
    rw (short_text c.args.content.now c.in-Ok.ensures.cases.1 (omega arith))
    (ap (λ name. Found (Text name) (c.args.taken + 1)) (c.in_ok-name-in-Ok.ensures ∙ c.in-Ok.ensures.cases.0))

pub returns-in-Err : goal.returns-in-Err
returns-in-Err c = rw (no_text c.args.content.now c.in-Err.ensures.cases.0)
