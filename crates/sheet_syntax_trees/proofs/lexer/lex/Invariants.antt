use Rattle.std.proofs.Common.{◌≡◌, ◌≤◌, ◌+◌, length}
use Rattle.sheet_syntax_trees.specs.Tokens.{lexed, with_tokens, tokens_from}
use Rattle.sheet_syntax_trees.proofs.lexer.lex.Given as goal

abbrev pub invariant-loop-first : goal.invariant-loop-first
invariant-loop-first l = record {
  within : l.at + length l.rest ≡ length l.text;
  lines : l.line ≤ l.at + 1;
  told : with_tokens l.list.items (tokens_from l.rest l.at l.line 0) ≡ lexed l.text;
}

abbrev pub decreases-loop-first : goal.decreases-loop-first
decreases-loop-first l = length l.rest
