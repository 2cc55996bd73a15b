use Rattle.std.proofs.Common.{length}
use Rattle.std.specs.Prelude.{reverse}
use Rattle.sheet_state_rows.specs.Seen.{seen}
use Rattle.sheet_state_rows.proofs.Undo.{Going}
use Rattle.sheet_state_rows.proofs.tables.Tables.undo_to.Given as goal

abbrev pub invariant-loop-self : goal.invariant-loop-self
invariant-loop-self l = Going l.fn.self.earlier l.fn.self.present l.mark (reverse l.self-inside.edits.items) (seen l.self-inside.rows) l.self-inside.begun

abbrev pub decreases-loop-self : goal.decreases-loop-self
decreases-loop-self l = length l.self-inside.edits.items
