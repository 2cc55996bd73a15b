use Rattle.std.proofs.Common.{◌≡◌, length, Ok}
use Rattle.sheet_syntax_trees.specs.Reading.{under_prefixes}
use Rattle.sheet_syntax.proofs.build.under_prefixes.Given as goal

abbrev pub invariant-loop-token : goal.invariant-loop-token
invariant-loop-token l = under_prefixes 32 l.prefix l.remaining (Ok l.formed) ≡ under_prefixes 32 l.prefix l.front (Ok l.fn.operand)

abbrev pub decreases-loop-token : goal.decreases-loop-token
decreases-loop-token l = length l.remaining
