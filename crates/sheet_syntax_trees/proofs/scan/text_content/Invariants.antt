use Rattle.std.proofs.Common.{◌≡◌, drop, false}
use Rattle.sheet_syntax_trees.specs.Tokens.{text_from, with_content}
use Rattle.sheet_syntax_trees.proofs.scan.text_content.Given as goal

abbrev pub invariant-loop-i : goal.invariant-loop-i
invariant-loop-i l = with_content l.content.items l.i (text_from l.behind (drop l.i l.bytes)) ≡ text_from false l.bytes
