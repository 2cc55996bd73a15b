use Rattle.std.proofs.Common.{sym}
use Rattle.sheet_print.proofs.Parented.{root_is_no_cell}
use Rattle.sheet_print.proofs.columns.is_under.Goals as goal

pub returns-then-column-eq0 : goal.returns-then-column-eq0
returns-then-column-eq0 c = sym (root_is_no_cell c.args.columns.now c.args.above c.args.column c.requires.tree c.if-column-eq0.true)
