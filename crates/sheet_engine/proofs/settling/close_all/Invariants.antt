use Rattle.std.proofs.Common.{◌≡◌, length}
use Rattle.sheet_meaning.specs.Support.{Cell}
use Rattle.sheet_engine.specs.Started.{cells_started, closing}
use Rattle.sheet_engine.proofs.settling.close_all.Given as goal

abbrev pub invariant-loop-frame : goal.invariant-loop-frame
invariant-loop-frame l =
    (x : Cell) → closing l.standings (cells_started l.frames.items) x ≡ closing l.fn.standings (cells_started l.fn.frames.items) x

abbrev pub decreases-loop-frame : goal.decreases-loop-frame
decreases-loop-frame l = length l.frames.items
