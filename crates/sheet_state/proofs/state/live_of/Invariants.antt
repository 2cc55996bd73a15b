use Rattle.std.proofs.Common.{take}
use Rattle.sheet_state.specs.Removals.{AreLive}
use Rattle.sheet_state.specs.Rows.{objects_in}
use Rattle.sheet_state.proofs.state.live_of.Given as goal

abbrev pub invariant-loop-value : goal.invariant-loop-value
invariant-loop-value l = AreLive (objects_in l.rows) (take l.value-index l.value-items) l.live.keys
