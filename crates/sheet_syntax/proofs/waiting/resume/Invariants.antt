use Rattle.std.proofs.Common.{◌≡◌, Ok, length}
use Rattle.sheet_syntax.specs.Waiting.{resumed_by}
use Rattle.sheet_syntax.proofs.waiting.resume.Given as goal

abbrev pub invariant-loop-inner : goal.invariant-loop-inner
invariant-loop-inner l =
    resumed_by l.room.end l.room.turns l.room.brackets l.waiting.items (Ok (l.formed, l.rest)) ≡ resumed_by l.room.end l.room.turns l.room.brackets
    l.fn.waiting.items (Ok (l.fn.first, l.rest))

abbrev pub decreases-loop-inner : goal.decreases-loop-inner
decreases-loop-inner l = length l.waiting.items
