use Rattle.std.proofs.Common.{◌≡◌, length}
use Rattle.sheet_syntax_trees.specs.Reading.{steps}
use Rattle.sheet_syntax.proofs.build.steps.Given as goal

abbrev pub invariant-loop-behind : goal.invariant-loop-behind
invariant-loop-behind l = steps 32 l.end l.at l.line l.formed l.remaining ≡ steps 32 l.end l.at l.line l.fn.first l.rest

abbrev pub decreases-loop-behind : goal.decreases-loop-behind
decreases-loop-behind l = length l.remaining
