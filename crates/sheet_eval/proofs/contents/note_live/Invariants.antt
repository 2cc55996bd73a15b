use Rattle.std.proofs.Common.{◌≡◌, length}
use Rattle.sheet_meaning.specs.Formula.{live_reads}
use Rattle.sheet_eval.specs.Told.{noted}
use Rattle.sheet_eval.proofs.contents.note_live.Given as goal

abbrev pub decreases-loop-value : goal.decreases-loop-value
decreases-loop-value l = length l.rest

abbrev pub invariant-loop-value : goal.invariant-loop-value
invariant-loop-value l = noted l.uses (live_reads l.rest) ≡ noted l.fn.uses (live_reads l.set)
