use Rattle.std.proofs.Common.{sym, subst}
use Rattle.sheet_syntax_trees.specs.TokenList.{TokenList}
use Rattle.sheet_syntax_trees.specs.Order.{InOrder}
use Rattle.sheet_syntax_trees.proofs.Ordered.{order_at_end}
use Rattle.sheet_syntax_trees.proofs.lexer.lex.Goals as goal

pub returns-clause-order : goal.returns-clause-order
returns-clause-order c =
    let P : TokenList → Type 0 = λ t. InOrder 0 t.text_length t.list in
    subst P (sym c.of.ensures) (order_at_end c.args.text.now c.loop-first.rest.now c.loop-first.at c.loop-first.line c.loop-first.list.items
    c.in_default.ensures.cases c.loop-first.invariant.told)
