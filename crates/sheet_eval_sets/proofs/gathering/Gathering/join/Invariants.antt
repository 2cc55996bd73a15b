use Rattle.std.proofs.Common.{◌≡◌, [], length}
use Rattle.std.specs.Prelude.{fold}
use Rattle.sheet_values.specs.Sets.{union}
use Rattle.sheet_eval_sets.proofs.gathering.Gathering.join.Given as goal

abbrev pub decreases-loop-last : goal.decreases-loop-last
decreases-loop-last l = length l.self-inside.parts.items

abbrev pub invariant-loop-last : goal.invariant-loop-last
invariant-loop-last l = union (fold union [] l.self-inside.parts.items) l.part ≡ union l.fn.self l.fn.part
